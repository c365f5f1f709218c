-- What a refusal tells of why and where an evaluation was refused.
use Rattle.std.specs.Prelude.{ℕ, List, [], Option, Some, None, codes, slice_get}
use Rattle.bz_base.specs.declared.refusals.Code.{Code}
use Rattle.bz_base.specs.declared.refusals.Code.TheVariants as code
use Rattle.bz_base.specs.declared.refusals.Refusal.{Refusal}
use Rattle.star_core.specs.declared.faults.Fault.{Fault}
use Rattle.star_core.specs.declared.faults.Fault.TheVariants as fault
use Rattle.star_meaning.specs.Worlds.{line_of}
use Rattle.star_meaning.specs.declared.reasons.Place.{Place}
use Rattle.star_meaning.specs.declared.reasons.Reason.{Reason}
use Rattle.star_meaning.specs.declared.reasons.Reason.TheVariants as reason

-- the kind of a fault as it is printed; sizes and depth have codes of their own
abbrev pub kind_text : Fault → List ℕ
kind_text fault.Kind = codes "type"
kind_text fault.Value = codes "value"
kind_text fault.Index = codes "index"
kind_text fault.Key = codes "key"
kind_text fault.Attr = codes "attr"
kind_text fault.Arity = codes "arity"
kind_text fault.Overflow = codes "overflow"
kind_text fault.Zero = codes "zero"
kind_text fault.Frozen = codes "frozen"
kind_text fault.Iterating = codes "iterating"
kind_text fault.Recursion = codes "recursion"
kind_text fault.Unbound = codes "unbound"
kind_text fault.Size = []
kind_text fault.Depth = []

abbrev pub fault_code : Fault → Code
fault_code fault.Kind = code.Fault
fault_code fault.Value = code.Fault
fault_code fault.Index = code.Fault
fault_code fault.Key = code.Fault
fault_code fault.Attr = code.Fault
fault_code fault.Arity = code.Fault
fault_code fault.Overflow = code.Fault
fault_code fault.Zero = code.Fault
fault_code fault.Frozen = code.Fault
fault_code fault.Iterating = code.Fault
fault_code fault.Recursion = code.Fault
fault_code fault.Unbound = code.Fault
fault_code fault.Size = code.Size
fault_code fault.Depth = code.Depth

-- a construct that isn't evaluated yet is a call that the tool doesn't support
abbrev pub code_of : Reason → Code
code_of (reason.Fault kind) = fault_code kind
code_of reason.Steps = code.Steps
code_of reason.Unbuilt = code.Unsupported

abbrev pub detail_of : Reason → List ℕ
detail_of (reason.Fault kind) = kind_text kind
detail_of reason.Steps = []
detail_of reason.Unbuilt = []

abbrev pub or_no_name : Option (List ℕ) → List ℕ
or_no_name None = []
or_no_name (Some name) = name

-- the printed name of a place's file; none where there is no place
abbrev pub file_name : List (List ℕ) → Option Place → List ℕ
file_name names None = []
file_name names (Some place) = or_no_name (slice_get names place.file)

-- the language's own refusal
abbrev pub refusal_for : List (List ℕ) → Reason → Option Place → Refusal
refusal_for names why place =
    record {
      code = code_of why;
      file = file_name names place;
      line = line_of place;
      detail = detail_of why;
      hint = 0;
    }

-- a host's refusal, where the running statement begins
abbrev pub placed : List (List ℕ) → Refusal → Option Place → Refusal
placed names refusal place =
    record refusal { file = file_name names place; line = line_of place }
