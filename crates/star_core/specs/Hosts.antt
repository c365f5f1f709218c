-- What a host is: objects outside an evaluation, whose calls and fields may ask questions.
use Rattle.std.specs.Prelude.{◌≡◌, ◌<◌, ℕ, List, take, length, None, Result, Ok, Err, ⊤}
use Rattle.bz_base.specs.declared.refusals.Refusal.{Refusal}
use Rattle.bz_text.specs.declared.memory.OutOfMemory.{OutOfMemory}
use Rattle.star_core.specs.Heaps.{HeapState}
use Rattle.star_core.specs.Tables.{Table, Within, answer_in}
use Rattle.star_core.specs.declared.host.HostStep.{HostStep}
use Rattle.star_core.specs.declared.host.HostStep.TheVariants as step
use Rattle.star_core.specs.declared.questions.Question.{Question}
use Rattle.star_core.specs.declared.values.Args.{Args}
use Rattle.star_core.specs.declared.values.Val.{Val}
use Rattle.star_core.specs.declared.values.Val.TheVariants as val

-- a call of an object's method with arguments, made by a statement that begins at a line, which is
-- 0 where none runs; or a look at one of its fields
pub data HostCall : Type 0 where
  Method : (object : ℕ) (name : List ℕ) → Args → (line : ℕ) → HostCall
  Field : (object : ℕ) (name : List ℕ) → HostCall

-- what a host replies: a value, with the heap and the host behind it; a refusal; a question; or that
-- the object has no such attribute
pub data Reply (S : Type 0) : Type 0 where
  Returns : Val → HeapState → S → Reply S
  Refuses : Refusal → Reply S
  Asks : Question → Reply S
  Lacks : Reply S

-- a function of the host's state, the heap, what is called and the table of answers
abbrev pub Meaning : Type 0 → Type 0 → Type 0
Meaning S C = S → HeapState → C → Table → Reply S

-- each earlier cell is as it was, with the walks that are open on it
pub record KeepsCells (before now : HeapState) : Type 0 where
  pub cells : take (length before.cells) now.cells ≡ before.cells
  pub frozen : now.frozen ≡ before.frozen

-- a value of this heap: a small one, or the number of a cell
abbrev pub IsValueOf : HeapState → Val → Type 0
IsValueOf heap val.None = ⊤
IsValueOf heap (val.Bool flag) = ⊤
IsValueOf heap (val.Int number) = ⊤
IsValueOf heap (val.Cell number) = number < length heap.cells

abbrev pub IsNoQuestion : {S : Type 0} → Reply S → Type 0
IsNoQuestion (Returns value heap host) = ⊤
IsNoQuestion (Refuses refusal) = ⊤
IsNoQuestion (Asks question) = ⊥
IsNoQuestion Lacks = ⊤

-- a value that a host returns is of the heap behind the call, which keeps each earlier cell
abbrev pub ReturnsWell : {S : Type 0} → HeapState → Reply S → Type 0
ReturnsWell before (Returns value heap host) = KeepsCells before heap × IsValueOf heap value
ReturnsWell before (Refuses refusal) = ⊤
ReturnsWell before (Asks question) = ⊤
ReturnsWell before Lacks = ⊤

-- a host asks only what the table lacks
abbrev pub AsksAnew : {S : Type 0} → Table → Reply S → Type 0
AsksAnew table (Returns value heap host) = ⊤
AsksAnew table (Refuses refusal) = ⊤
AsksAnew table (Asks question) = answer_in table question ≡ None
AsksAnew table Lacks = ⊤

-- The laws of a host: it asks only what the table lacks; what doesn't ask is the same with every
-- table that has those answers and more; and a value that it returns is of the heap, of which each
-- earlier cell is as it was.
pub record IsLawful {S C : Type 0} (meaning : Meaning S C) : Type 0 where
  pub asks_anew : (host : S) (heap : HeapState) (call : C) (table : Table)
      → AsksAnew table (meaning host heap call table)
  pub steady : (host : S) (heap : HeapState) (call : C) (less more : Table)
      → Within less more
      → IsNoQuestion (meaning host heap call less)
      → meaning host heap call more ≡ meaning host heap call less
  pub returns_well : (host : S) (heap : HeapState) (call : C) (table : Table)
      → ReturnsWell heap (meaning host heap call table)

-- A call answered its meaning, unless memory ran out. One that asks, and one of an attribute that the
-- object lacks, leaves the heap and the host as they were; one that is refused keeps each earlier
-- cell.
abbrev pub Replied : {S : Type 0}
    → Reply S
    → Result HostStep OutOfMemory
    → (old new : S)
    → (heap_old heap_new : HeapState)
    → Type 0
Replied reply (Err memory) old new heap_old heap_new = ⊤
Replied (Returns value heap host) (Ok (step.Value given)) old new heap_old heap_new =
    (given ≡ value) × (heap_new ≡ heap) × (new ≡ host)
Replied (Returns value heap host) (Ok (step.Refused refusal)) old new heap_old heap_new = ⊥
Replied (Returns value heap host) (Ok (step.Asks question)) old new heap_old heap_new = ⊥
Replied (Returns value heap host) (Ok step.NoAttribute) old new heap_old heap_new = ⊥
Replied (Refuses wanted) (Ok (step.Value given)) old new heap_old heap_new = ⊥
Replied (Refuses wanted) (Ok (step.Refused refusal)) old new heap_old heap_new =
    (refusal ≡ wanted) × KeepsCells heap_old heap_new
Replied (Refuses wanted) (Ok (step.Asks question)) old new heap_old heap_new = ⊥
Replied (Refuses wanted) (Ok step.NoAttribute) old new heap_old heap_new = ⊥
Replied (Asks wanted) (Ok (step.Value given)) old new heap_old heap_new = ⊥
Replied (Asks wanted) (Ok (step.Refused refusal)) old new heap_old heap_new = ⊥
Replied (Asks wanted) (Ok (step.Asks question)) old new heap_old heap_new =
    (question ≡ wanted) × (heap_new ≡ heap_old) × (new ≡ old)
Replied (Asks wanted) (Ok step.NoAttribute) old new heap_old heap_new = ⊥
Replied Lacks (Ok (step.Value given)) old new heap_old heap_new = ⊥
Replied Lacks (Ok (step.Refused refusal)) old new heap_old heap_new = ⊥
Replied Lacks (Ok (step.Asks question)) old new heap_old heap_new = ⊥
Replied Lacks (Ok step.NoAttribute) old new heap_old heap_new =
    (heap_new ≡ heap_old) × (new ≡ old)
