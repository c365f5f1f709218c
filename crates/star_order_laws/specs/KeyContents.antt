-- Keys are one exactly where their contents are, so that a dictionary may find them by these.
use Rattle.std.specs.Prelude.{◌≡◌, ℕ, ◌<◌, ◌^◌, All, FitsSigned, List, length, Ok}
use Rattle.std.specs.Prelude.{bytes_eq, ⊤}
use Rattle.std.specs.Int.{w64}
use Rattle.star_core.specs.Contents.{key_content}
use Rattle.star_core.specs.Heaps.{HeapState}
use Rattle.star_core.specs.declared.cells.Cell.{Cell}
use Rattle.star_core.specs.declared.cells.Cell.TheVariants as cell
use Rattle.star_core.specs.declared.values.Val.{Val}
use Rattle.star_core.specs.declared.values.Val.TheVariants as val
use Rattle.star_order.specs.Equality.{equal}

-- a text as long as one in memory
abbrev pub IsShort : List ℕ → Type 0
IsShort text = length text < 2 ^ 64

-- an integer has 64 bits
abbrev pub HasWord : Val → Type 0
HasWord val.None = ⊤
HasWord (val.Bool flag) = ⊤
HasWord (val.Int number) = FitsSigned w64 number
HasWord (val.Cell number) = ⊤

-- what a cell of a key has: integers of 64 bits, and texts as long as those in memory
abbrev pub HasWords : Cell → Type 0
HasWords (cell.Text text) = IsShort text
HasWords (cell.Tuple items) = All HasWord items
HasWords (cell.Label label) =
    IsShort label.repo × IsShort label.package × IsShort label.name
HasWords _ = ⊤

-- two keys, in a heap whose integers have 64 bits and whose texts are as long as those in memory,
-- are equal where their contents are one, and unequal where these differ; neither is refused
abbrev pub KeysAreOneByContent : Type 0
KeysAreOneByContent = (heap : HeapState) (one other : Val) (content other_content : List ℕ)
    → All (λ held. HasWords held.cell) heap.cells
    → HasWord one
    → HasWord other
    → key_content heap one ≡ Ok content
    → key_content heap other ≡ Ok other_content
    → equal heap one other ≡ Ok (bytes_eq content other_content)
