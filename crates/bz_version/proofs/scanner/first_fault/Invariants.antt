use Rattle.std.proofs.Common.{◌≡◌, drop}
use Rattle.bz_version.specs.Scan.{fault_from}
use Rattle.bz_version.specs.declared.scanner.Place.TheVariants.{Start}
use Rattle.bz_version.proofs.scanner.first_fault.Given as goal

-- what is left has the fault of the whole text
abbrev pub invariant-bytes : goal.invariant-bytes
invariant-bytes l = fault_from l.place l.i (drop l.i l.text) ≡ fault_from Start 0 l.text
