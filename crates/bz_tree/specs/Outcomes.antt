-- The answer and the state that a call of an object in memory leaves. Want of memory may come
-- instead, and then leaves the object as it was.
use Rattle.std.specs.Prelude.{◌≡◌, IsErrOf, Result, Ok, Err}
use Rattle.bz_tree.specs.declared.faults.OutsideFault.{OutsideFault}
use Rattle.bz_tree.specs.declared.faults.OutsideFault.TheVariants.{Failed, OutOfMemory}

abbrev pub IsOutcome : {T S : Type 0}
    → Result T OutsideFault
    → S
    → S
    → Result T OutsideFault
    → S
    → Type 0
IsOutcome answer after before (Ok value) now = (answer ≡ Ok value) × (now ≡ after)
IsOutcome answer after before (Err Failed) now = (answer ≡ Err Failed) × (now ≡ after)
IsOutcome answer after before (Err OutOfMemory) now = now ≡ before

-- a call failed, and memory didn't run out
abbrev pub Fails : {T : Type 0} → Result T OutsideFault → Type 0
Fails result = IsErrOf result Failed
