-- A lockfile in memory, and what the calls of its keeper answer and leave.
use Rattle.std.specs.Prelude.{ℕ, Bool, true, false, if◌then◌else◌, List, Option, Some, None, Result}
use Rattle.std.specs.Prelude.{Ok, Err}
use Rattle.bz_base.specs.Counts.{counted}
use Rattle.bz_tree.specs.Keeping.{loaded_of}
use Rattle.bz_tree.specs.declared.lock_keeper.Loaded.{Loaded}
use Rattle.bz_tree.specs.declared.faults.OutsideFault.{OutsideFault}
use Rattle.bz_tree.specs.declared.faults.OutsideFault.TheVariants.{Failed}

-- the bytes held, whether the next load fails, whether the next replacement fails and then keeps
-- the new bytes, and the count of failed calls
pub record MemLockState : Type 0 where
  pub held : Option (List ℕ)
  pub fails_load : Bool
  pub fails_replace : Option Bool
  pub faults : ℕ

abbrev pub load_of : MemLockState → Result Loaded OutsideFault
load_of lock = if lock.fails_load then Err Failed else Ok (loaded_of lock.held)

abbrev pub after_load : MemLockState → MemLockState
after_load lock =
    if lock.fails_load
    then record {
      held = lock.held;
      fails_load = false;
      fails_replace = lock.fails_replace;
      faults =
          counted lock.faults;
    }
    else lock

-- what a replacement keeps, by whether it fails and then keeps the new bytes
abbrev pub kept : Option Bool → Option (List ℕ) → List ℕ → Option (List ℕ)
kept None held bytes = Some bytes
kept (Some true) held bytes = Some bytes
kept (Some false) held bytes = held

abbrev pub count_after : Option Bool → ℕ → ℕ
count_after None faults = faults
count_after (Some keeps_new) faults = counted faults

abbrev pub after_replace : MemLockState → List ℕ → MemLockState
after_replace lock bytes =
    record {
      held = kept lock.fails_replace lock.held bytes;
      fails_load = lock.fails_load;
      fails_replace = None;
      faults = count_after lock.fails_replace lock.faults;
    }
