-- Keys are equal exactly where their contents are one, kind by kind and layer by layer.
use Rattle.std.proofs.Common.{◌≡◌, ◌∙◌, ◌≢◌, ℕ, zero, suc, ap, arith, refl, subst, sym}
use Rattle.std.proofs.Common.{All, Bool, true, false, ◌==◌, nat_eq, if◌then◌else◌}
use Rattle.std.proofs.Common.{List, [], ◌∷◌, ◌++◌, append_assoc, length, Option, Some, None}
use Rattle.std.proofs.Common.{Result, Ok, Err, bytes_eq, codes, slice_get, option_map}
use Rattle.std.proofs.lemmas.Bool.Decides.{nat_tests}
use Rattle.std.proofs.lemmas.List.Elements.{All-head, All-tail}
use Rattle.std.proofs.lemmas.Slice.Eq.{bytes_eq-Decides}
use Rattle.std.specs.Fmt.{signed_decimal}
use Rattle.bz_base.specs.declared.labels.Label.{Label}
use Rattle.star_core.specs.Contents.{Content, behind, bracketed, cell_content, content_by}
use Rattle.star_core.specs.Contents.{content_within, each_content, label_content}
use Rattle.star_core.specs.Contents.{marked, measured, text_content, text_in, value_content}
use Rattle.star_core.specs.Heaps.{HeapState, cell_at}
use Rattle.star_core.specs.declared.cells.Cell.{Cell}
use Rattle.star_core.specs.declared.cells.Cell.TheVariants as cell
use Rattle.star_core.specs.declared.faults.Fault.{Fault}
use Rattle.star_core.specs.declared.faults.Fault.TheVariants as fault
use Rattle.star_core.specs.declared.heap.HeapCell.{HeapCell}
use Rattle.star_core.specs.declared.values.Val.{Val}
use Rattle.star_core.specs.declared.values.Val.TheVariants as val
use Rattle.star_order.specs.Contained.{Inside, Rule}
use Rattle.star_order.specs.Equality.{and_equal, cells_equal, equal, equal_within, held_equal}
use Rattle.star_order.specs.Equality.{items_equal, label_equal, lists_equal, text_equal}
use Rattle.star_order.specs.Equality.{tuple_equal, values_equal}
use Rattle.star_order_laws.specs.KeyContents.{HasWord, HasWords, IsShort, KeysAreOneByContent}
use Rattle.star_order_laws.proofs.Told.{Tells, Told, cut_measured, label_told}
use Rattle.star_order_laws.proofs.Told.{measured_told, number_told}
use Rattle.star_order_laws.proofs.Told.{tells_missed, told_apart, told_behind, told_joined}
use Rattle.star_trees.specs.Nesting.{deepest}

-- a content begins with a letter, and not with that
abbrev pub Opens : ℕ → Content → Type 0
Opens other (Ok []) = ⊥
Opens other (Ok (letter ∷ rest)) = letter ≢ other
Opens other (Err reason) = Unit {0}

-- a content that begins otherwise than with a letter
tells_apart : (letter : ℕ) (rest : List ℕ) (content : Content)
    → Opens letter content
    → Tells (Ok false) (Ok (letter ∷ rest)) content
tells_apart letter rest (Ok []) opens = absurd opens
tells_apart letter rest (Ok (other ∷ others)) opens =
    told_apart letter other rest others (λ is. opens (sym is))
tells_apart letter rest (Err reason) opens = tt

apart_tells : (letter : ℕ) (rest : List ℕ) (content : Content)
    → Opens letter content
    → Tells (Ok false) content (Ok (letter ∷ rest))
apart_tells letter rest (Ok []) opens = absurd opens
apart_tells letter rest (Ok (other ∷ others)) opens = told_apart other letter others rest opens
apart_tells letter rest (Err reason) opens = tt

-- what is known of an equal item, before the rest
items_on : (answer rest_answer : Result Bool Fault) (one other rest other_rest : Content)
    → Tells answer one other
    → Tells rest_answer (behind rest (Ok (codes ")"))) (behind other_rest (Ok (codes ")")))
    → Tells (and_equal answer rest_answer) (behind (behind one rest) (Ok (codes ")")))
    (behind (behind other other_rest) (Ok (codes ")")))
items_on answer rest_answer (Err reason) other rest other_rest is rest_is = tt
items_on answer rest_answer (Ok one) other (Err reason) other_rest is rest_is = tt
items_on answer rest_answer (Ok one) (Err reason) (Ok rest) other_rest is rest_is = tt
items_on answer rest_answer (Ok one) (Ok other) (Ok rest) (Err reason) is rest_is = tt
items_on answer rest_answer (Ok one) (Ok other) (Ok rest) (Ok other_rest) is rest_is =
    subst (λ right. Told (and_equal answer rest_answer) ((one ++ rest) ++ codes ")") right)
    (sym (append_assoc other other_rest (codes ")")))
    (subst (λ left. Told (and_equal answer rest_answer) left (other ++ (other_rest ++ codes ")")))
    (sym (append_assoc one rest (codes ")")))
    (told_joined answer rest_answer one other (rest ++ codes ")") (other_rest ++ codes ")") is
    rest_is))

-- a content opens also before others
opens_on : (letter : ℕ) (content rest : Content)
    → Opens letter content
    → Opens letter (behind (behind content rest) (Ok (codes ")")))
opens_on letter (Ok []) rest opens = absurd opens
opens_on letter (Ok (first ∷ others)) (Ok rest) opens = opens
opens_on letter (Ok (first ∷ others)) (Err reason) opens = tt
opens_on letter (Err reason) rest opens = tt

module _ (same : Rule Bool) (content : Val → Content)
    (tells : (one other : Val) → HasWord one → HasWord other
    → Tells (same one other) (content one) (content other))
    (opens : (one : Val) → Opens 41 (content one)) where
  items_told : (items others : List Val)
      → All HasWord items
      → All HasWord others
      → Tells (items_equal same items others)
      (behind (each_content content items) (Ok (codes ")")))
      (behind (each_content content others) (Ok (codes ")")))
  items_told [] [] words other_words = (true, refl, refl)
  items_told [] (other ∷ others) words other_words =
      tells_apart 41 [] (behind (behind (content other) (each_content content others))
      (Ok (codes ")"))) (opens_on 41 (content other) (each_content content others) (opens other))
  items_told (item ∷ items) [] words other_words =
      apart_tells 41 [] (behind (behind (content item) (each_content content items))
      (Ok (codes ")"))) (opens_on 41 (content item) (each_content content items) (opens item))
  items_told (item ∷ items) (other ∷ others) words other_words =
      items_on (same item other) (items_equal same items others) (content item) (content other)
      (each_content content items) (each_content content others)
      (tells item other (All-head HasWord item items words)
      (All-head HasWord other others other_words))
      (items_told items others (All-tail HasWord item items words)
      (All-tail HasWord other others other_words))

  and_true : (answer rest : Result Bool Fault) → and_equal answer rest ≡ Ok true → rest ≡ Ok true
  and_true (Ok true) rest is = is
  and_true (Ok false) rest is = absurd (cc)
  and_true (Err reason) rest is = absurd (cc)

  -- equal items are as many
  equal_lengths : (items others : List Val)
      → items_equal same items others ≡ Ok true
      → nat_eq (length items) (length others) ≡ true
  equal_lengths [] [] is = refl
  equal_lengths [] (other ∷ others) is = absurd (cc)
  equal_lengths (item ∷ items) [] is = absurd (cc)
  equal_lengths (item ∷ items) (other ∷ others) is =
      let more : nat_eq (length items) (length others) ≡ true =
      equal_lengths items others
      (and_true (same item other) (items_equal same items others) is) in
      grind (arith, nat_tests, more)

  counted_told : (items others : List Val) (text other : List ℕ) (counts : Bool)
      → nat_eq (length items) (length others) ≡ counts
      → Told (items_equal same items others) text other
      → Told (if counts then items_equal same items others else Ok false) text other
  counted_told items others text other true counts_is told = told
  counted_told items others text other false counts_is (false, is, parts) = (false, refl, parts)
  counted_told items others text other false counts_is (true, is, parts) =
      let not : true ≡ false = sym (equal_lengths items others is) ∙ counts_is in absurd (cc)

  bracketed_by : (items others : List Val) (inner other_inner : Content)
      → Tells (items_equal same items others) (behind inner (Ok (codes ")")))
      (behind other_inner (Ok (codes ")")))
      → Tells (lists_equal (Some same) items others) (bracketed inner) (bracketed other_inner)
  bracketed_by items others (Err reason) other_inner is = tt
  bracketed_by items others (Ok text) (Err reason) is = tt
  bracketed_by items others (Ok text) (Ok other) is =
      told_behind (lists_equal (Some same) items others) 40 (text ++ codes ")")
      (other ++ codes ")")
      (counted_told items others (text ++ codes ")") (other ++ codes ")")
      (nat_eq (length items) (length others)) refl is)

  pub lists_told : (items others : List Val)
      → All HasWord items
      → All HasWord others
      → Tells (lists_equal (Some same) items others) (bracketed (each_content content items))
      (bracketed (each_content content others))
  lists_told items others words other_words =
      bracketed_by items others (each_content content items) (each_content content others)
      (items_told items others words other_words)

-- the words of a cell that may be there
abbrev pub HeldWords : Option Cell → Type 0
HeldWords None = Unit {0}
HeldWords (Some held) = HasWords held

held_words : (cells : List HeapCell) (number : ℕ)
    → All (λ held. HasWords held.cell) cells
    → HeldWords (option_map (λ held. held.cell) (slice_get cells number))
held_words [] number all = tt
held_words (held ∷ cells) zero all = All-head (λ held. HasWords held.cell) held cells all
held_words (held ∷ cells) (suc number) all =
    held_words cells number (All-tail (λ held. HasWords held.cell) held cells all)

-- what begins a cell's content, by that of a tuple's items
cell_opens : (letter : ℕ) (items : List Val → Content) (held : Option Cell)
    → letter ≢ 115
    → letter ≢ 108
    → ((inside : List Val) → Opens letter (items inside))
    → Opens letter (cell_content items held)
cell_opens letter items None text label inner = tt
cell_opens letter items (Some (cell.Text held)) text label inner = λ is. text (sym is)
cell_opens letter items (Some (cell.Tuple inside)) text label inner = inner inside
cell_opens letter items (Some (cell.Label held)) text label inner = λ is. label (sym is)
cell_opens letter items (Some _) text label inner = tt

module _ (items : List Val → Content)
    (opens : (letter : ℕ) (one : List Val) → letter ≢ 40 → Opens letter (items one)) where
  value_opens : (heap : HeapState) (value : Val) → Opens 41 (value_content items heap value)
  value_opens heap val.None = λ is. omega (arith, is)
  value_opens heap (val.Bool true) = λ is. omega (arith, is)
  value_opens heap (val.Bool false) = λ is. omega (arith, is)
  value_opens heap (val.Int number) = λ is. omega (arith, is)
  value_opens heap (val.Cell number) =
      cell_opens 41 items (cell_at heap (val.Cell number)) (λ is. omega (arith, is))
      (λ is. omega (arith, is)) (λ inner. opens 41 inner (λ is. omega (arith, is)))

  -- what isn't a text begins otherwise
  held_other : (held : Option Cell) → text_in held ≡ None → Opens 115 (cell_content items held)
  held_other None is = tt
  held_other (Some (cell.Text text)) is = absurd (cc)
  held_other (Some (cell.Tuple inner)) is = opens 115 inner (λ one. omega (arith, one))
  held_other (Some (cell.Label label)) is = λ one. omega (arith, one)
  held_other (Some _) is = tt

  value_other : (heap : HeapState) (value : Val)
      → text_in (cell_at heap value) ≡ None
      → Opens 115 (value_content items heap value)
  value_other heap val.None is = λ one. omega (arith, one)
  value_other heap (val.Bool true) is = λ one. omega (arith, one)
  value_other heap (val.Bool false) is = λ one. omega (arith, one)
  value_other heap (val.Int number) is = λ one. omega (arith, one)
  value_other heap (val.Cell number) is = held_other (cell_at heap (val.Cell number)) is

module _ (items : List Val → Content) where
  held_text : (held : Option Cell) (text : List ℕ)
      → text_in held ≡ Some text
      → cell_content items held ≡ Ok (codes "s" ++ measured text)
  held_text None text is = absurd (cc)
  held_text (Some (cell.Text held)) text is =
      let it : held ≡ text = cc in ap (λ one. Ok (codes "s" ++ measured one)) it
  held_text (Some _) text is = absurd (cc)

  value_text : (heap : HeapState) (value : Val) (text : List ℕ)
      → text_in (cell_at heap value) ≡ Some text
      → value_content items heap value ≡ Ok (codes "s" ++ measured text)
  value_text heap (val.Cell number) text is =
      held_text (cell_at heap (val.Cell number)) text is
  value_text heap val.None text is = absurd (cc)
  value_text heap (val.Bool flag) text is = absurd (cc)
  value_text heap (val.Int number) text is = absurd (cc)

module _ (inside : Inside Bool) (items : List Val → Content)
    (tells : (one other : List Val) → All HasWord one → All HasWord other
    → Tells (lists_equal inside one other) (items one) (items other))
    (opens : (letter : ℕ) (one : List Val) → letter ≢ 40 → Opens letter (items one)) where
  text_told : (text : List ℕ) (other : Cell)
      → IsShort text
      → HasWords other
      → Tells (Ok (text_equal text other)) (Ok (codes "s" ++ measured text))
      (cell_content items (Some other))
  unfolding text_equal
  text_told text (cell.Text other) words other_words =
      told_behind (Ok (bytes_eq text other)) 115 (measured text) (measured other)
      (measured_told text other words other_words)
  text_told text (cell.Tuple others) words other_words =
      tells_apart 115 (measured text) (items others) (opens 115 others (λ is. omega (arith, is)))
  text_told text (cell.Label other) words other_words =
      told_apart 115 108 (measured text)
      ((measured other.repo ++ measured other.package) ++ measured other.name)
      (λ is. omega (arith, is))
  text_told text _ words other_words = tt

  tuple_told : (inner : List Val) (other : Cell)
      → All HasWord inner
      → HasWords other
      → Tells (tuple_equal inside inner other) (items inner) (cell_content items (Some other))
  unfolding tuple_equal
  tuple_told inner (cell.Tuple others) words other_words = tells inner others words other_words
  tuple_told inner (cell.Text other) words other_words =
      apart_tells 115 (measured other) (items inner) (opens 115 inner (λ is. omega (arith, is)))
  tuple_told inner (cell.Label other) words other_words =
      apart_tells 108 ((measured other.repo ++ measured other.package) ++ measured other.name)
      (items inner) (opens 108 inner (λ is. omega (arith, is)))
  tuple_told inner _ words other_words = tells_missed (Ok false) (items inner) fault.Kind

  label_beside : (label : Label) (other : Cell)
      → IsShort label.repo × IsShort label.package × IsShort label.name
      → HasWords other
      → Tells (Ok (label_equal label other)) (Ok (label_content label))
      (cell_content items (Some other))
  unfolding label_equal
  label_beside label (cell.Label other) words other_words = label_told label other words other_words
  label_beside label (cell.Text other) words other_words =
      told_apart 108 115 ((measured label.repo ++ measured label.package) ++ measured label.name)
      (measured other) (λ is. omega (arith, is))
  label_beside label (cell.Tuple others) words other_words =
      tells_apart 108 ((measured label.repo ++ measured label.package) ++ measured label.name)
      (items others) (opens 108 others (λ is. omega (arith, is)))
  label_beside label _ words other_words = tt

  cells_told : (one : Bool) (held other : Cell)
      → HasWords held
      → HasWords other
      → Tells (cells_equal inside one held other) (cell_content items (Some held))
      (cell_content items (Some other))
  unfolding cells_equal
  cells_told one (cell.Text text) other words other_words = text_told text other words other_words
  cells_told one (cell.Tuple inner) other words other_words =
      tuple_told inner other words other_words
  cells_told one (cell.Label label) other words other_words =
      label_beside label other words other_words
  cells_told one _ other words other_words = tt

  held_told : (one : Bool) (held other : Option Cell)
      → HeldWords held
      → HeldWords other
      → Tells (held_equal inside one held other) (cell_content items held)
      (cell_content items other)
  held_told one (Some held) (Some other) words other_words =
      cells_told one held other words other_words
  held_told one (Some held) None words other_words =
      tells_missed (Ok one) (cell_content items (Some held)) fault.Kind
  held_told one None other words other_words = tt

  -- the letter of a small value before a cell
  cell_apart : (letter : ℕ) (rest : List ℕ) (held : Option Cell)
      → letter ≢ 115
      → letter ≢ 108
      → letter ≢ 40
      → Tells (Ok false) (Ok (letter ∷ rest)) (cell_content items held)
  cell_apart letter rest held text label tuple =
      tells_apart letter rest (cell_content items held)
      (cell_opens letter items held text label (λ inner. opens letter inner tuple))

  apart_cell : (letter : ℕ) (rest : List ℕ) (held : Option Cell)
      → letter ≢ 115
      → letter ≢ 108
      → letter ≢ 40
      → Tells (Ok false) (cell_content items held) (Ok (letter ∷ rest))
  apart_cell letter rest held text label tuple =
      apart_tells letter rest (cell_content items held)
      (cell_opens letter items held text label (λ inner. opens letter inner tuple))

  values_told : (heap : HeapState) (one other : Val)
      → All (λ held. HasWords held.cell) heap.cells
      → HasWord one
      → HasWord other
      → Tells (values_equal inside heap one other) (value_content items heap one)
      (value_content items heap other)
  unfolding values_equal
  values_told heap val.None val.None all words other_words = (true, refl, refl)
  values_told heap val.None (val.Bool true) all words other_words =
      told_apart 110 116 [] [] (λ is. omega (arith, is))
  values_told heap val.None (val.Bool false) all words other_words =
      told_apart 110 102 [] [] (λ is. omega (arith, is))
  values_told heap val.None (val.Int other) all words other_words =
      told_apart 110 105 [] (signed_decimal other ++ 59 ∷ []) (λ is. omega (arith, is))
  values_told heap val.None (val.Cell other) all words other_words =
      cell_apart 110 [] (cell_at heap (val.Cell other)) (λ is. omega (arith, is))
      (λ is. omega (arith, is)) (λ is. omega (arith, is))
  values_told heap (val.Bool true) val.None all words other_words =
      told_apart 116 110 [] [] (λ is. omega (arith, is))
  values_told heap (val.Bool true) (val.Bool true) all words other_words = (true, refl, refl)
  values_told heap (val.Bool true) (val.Bool false) all words other_words =
      told_apart 116 102 [] [] (λ is. omega (arith, is))
  values_told heap (val.Bool true) (val.Int other) all words other_words =
      told_apart 116 105 [] (signed_decimal other ++ 59 ∷ []) (λ is. omega (arith, is))
  values_told heap (val.Bool true) (val.Cell other) all words other_words =
      cell_apart 116 [] (cell_at heap (val.Cell other)) (λ is. omega (arith, is))
      (λ is. omega (arith, is)) (λ is. omega (arith, is))
  values_told heap (val.Bool false) val.None all words other_words =
      told_apart 102 110 [] [] (λ is. omega (arith, is))
  values_told heap (val.Bool false) (val.Bool true) all words other_words =
      told_apart 102 116 [] [] (λ is. omega (arith, is))
  values_told heap (val.Bool false) (val.Bool false) all words other_words = (true, refl, refl)
  values_told heap (val.Bool false) (val.Int other) all words other_words =
      told_apart 102 105 [] (signed_decimal other ++ 59 ∷ []) (λ is. omega (arith, is))
  values_told heap (val.Bool false) (val.Cell other) all words other_words =
      cell_apart 102 [] (cell_at heap (val.Cell other)) (λ is. omega (arith, is))
      (λ is. omega (arith, is)) (λ is. omega (arith, is))
  values_told heap (val.Int number) val.None all words other_words =
      told_apart 105 110 (signed_decimal number ++ 59 ∷ []) [] (λ is. omega (arith, is))
  values_told heap (val.Int number) (val.Bool true) all words other_words =
      told_apart 105 116 (signed_decimal number ++ 59 ∷ []) [] (λ is. omega (arith, is))
  values_told heap (val.Int number) (val.Bool false) all words other_words =
      told_apart 105 102 (signed_decimal number ++ 59 ∷ []) [] (λ is. omega (arith, is))
  values_told heap (val.Int number) (val.Int other) all words other_words =
      number_told number other words.sfits other_words.sfits
  values_told heap (val.Int number) (val.Cell other) all words other_words =
      cell_apart 105 (signed_decimal number ++ 59 ∷ []) (cell_at heap (val.Cell other))
      (λ is. omega (arith, is)) (λ is. omega (arith, is)) (λ is. omega (arith, is))
  values_told heap (val.Cell number) val.None all words other_words =
      apart_cell 110 [] (cell_at heap (val.Cell number)) (λ is. omega (arith, is))
      (λ is. omega (arith, is)) (λ is. omega (arith, is))
  values_told heap (val.Cell number) (val.Bool true) all words other_words =
      apart_cell 116 [] (cell_at heap (val.Cell number)) (λ is. omega (arith, is))
      (λ is. omega (arith, is)) (λ is. omega (arith, is))
  values_told heap (val.Cell number) (val.Bool false) all words other_words =
      apart_cell 102 [] (cell_at heap (val.Cell number)) (λ is. omega (arith, is))
      (λ is. omega (arith, is)) (λ is. omega (arith, is))
  values_told heap (val.Cell number) (val.Int other) all words other_words =
      apart_cell 105 (signed_decimal other ++ 59 ∷ []) (cell_at heap (val.Cell number))
      (λ is. omega (arith, is)) (λ is. omega (arith, is)) (λ is. omega (arith, is))
  values_told heap (val.Cell number) (val.Cell other) all words other_words =
      held_told (nat_eq number other) (cell_at heap (val.Cell number))
      (cell_at heap (val.Cell other)) (held_words heap.cells number all)
      (held_words heap.cells other all)

-- the contents of a tuple's items, of which so many more may nest
abbrev pub inner_content : ℕ → HeapState → List Val → Content
inner_content zero heap items = Err fault.Depth
inner_content (suc depth) heap items = bracketed (each_content (content_within depth heap) items)

inner_opens : (depth : ℕ) (heap : HeapState) (letter : ℕ) (items : List Val)
    → letter ≢ 40
    → Opens letter (inner_content depth heap items)
inner_opens zero heap letter items differ = tt
inner_opens (suc depth) heap letter items differ =
    begun (each_content (content_within depth heap) items)
  where
    begun : (content : Content) → Opens letter (bracketed content)
    begun (Ok text) = λ is. differ (sym is)
    begun (Err reason) = tt

content_layer : (depth : ℕ) (heap : HeapState) (value : Val)
    → content_within depth heap value ≡ value_content (inner_content depth heap) heap value
unfolding content_within
content_layer zero heap value = refl
content_layer (suc depth) heap value = refl

within_opens : (depth : ℕ) (heap : HeapState) (value : Val)
    → Opens 41 (content_within depth heap value)
within_opens depth heap value =
    subst (Opens 41) (sym (content_layer depth heap value))
    (value_opens (inner_content depth heap) (inner_opens depth heap) heap value)

-- contents of values in which so many tuples nest tell whether they are equal
tells_within : (depth : ℕ) (heap : HeapState)
    → All (λ held. HasWords held.cell) heap.cells
    → (one other : Val)
    → HasWord one
    → HasWord other
    → Tells (equal_within depth heap one other) (content_within depth heap one)
    (content_within depth heap other)
unfolding equal_within content_within
tells_within zero heap all one other words other_words =
    values_told None (inner_content 0 heap) (λ items others held other_held. tt)
    (inner_opens 0 heap) heap one other all words other_words
tells_within (suc depth) heap all one other words other_words =
    values_told (Some (equal_within depth heap)) (inner_content (suc depth) heap)
    (lists_told (equal_within depth heap) (content_within depth heap)
    (tells_within depth heap all) (within_opens depth heap))
    (inner_opens (suc depth) heap) heap one other all words other_words

false_unless : (test same : Bool) → (test ≡ true → ⊥) → test ≡ same → test ≡ false
false_unless test true not is = absurd (not is)
false_unless test false not is = is

-- an answer about two texts is one about others that are one where those are
settled : (answer : Result Bool Fault) (text other content other_content : List ℕ)
    → Told answer text other
    → (text ≡ other → content ≡ other_content)
    → (content ≡ other_content → text ≡ other)
    → answer ≡ Ok (bytes_eq content other_content)
settled answer text other content other_content (true, is, same) there back =
    is ∙ ap (λ one. Ok one) (sym ((bytes_eq-Decides content other_content).1 (there same)))
settled answer text other content other_content (false, is, differ) there back =
    is
    ∙ ap (λ one. Ok one)
    (sym (false_unless (bytes_eq content other_content) (bytes_eq content other_content)
    (λ one. differ [] []
    (ap (λ all. all ++ []) (back ((bytes_eq-Decides content other_content).0 one)))) refl))

-- the content of a string by whether it begins with the sign
abbrev pub signed_by : Bool → ℕ → List ℕ → List ℕ
signed_by true first rest = 1 ∷ 115 ∷ first ∷ rest
signed_by false first rest = first ∷ rest

signed_same : (test other_test : Bool) (first other : ℕ) (rest others : List ℕ)
    → (first == 1) ≡ test
    → (other == 1) ≡ other_test
    → signed_by test first rest ≡ signed_by other_test other others
    → first ∷ rest ≡ other ∷ others
signed_same true true first other rest others sign other_sign is = cc
signed_same false false first other rest others sign other_sign is = is
signed_same true false first other rest others sign other_sign is =
    let it : other ≡ 1 = cc in absurd (grind (arith, nat_tests, it, other_sign))
signed_same false true first other rest others sign other_sign is =
    let it : first ≡ 1 = cc in absurd (grind (arith, nat_tests, it, sign))

signed_some : (test : Bool) (first : ℕ) (rest : List ℕ) → [] ≡ signed_by test first rest → ⊥
signed_some true first rest is = cc
signed_some false first rest is = cc

text_by : (first : ℕ) (rest : List ℕ)
    → text_content (first ∷ rest) ≡ signed_by (first == 1) first rest
text_by first rest = by (first == 1)
  where
    by : (test : Bool)
        → (if test then 1 ∷ codes "s" ++ first ∷ rest else first ∷ rest)
        ≡ signed_by test first rest
    by true = refl
    by false = refl

-- two strings of one content are one
same_text : (text other : List ℕ) → text_content text ≡ text_content other → text ≡ other
same_text [] [] is = refl
same_text [] (other ∷ others) is =
    absurd (signed_some (other == 1) other others (is ∙ text_by other others))
same_text (first ∷ rest) [] is =
    absurd (signed_some (first == 1) first rest (sym is ∙ text_by first rest))
same_text (first ∷ rest) (other ∷ others) is =
    signed_same (first == 1) (other == 1) first other rest others refl refl
    (sym (text_by first rest) ∙ is ∙ text_by other others)

-- a string has another content than what isn't one
unsigned_apart : (text content : List ℕ)
    → Opens 115 (Ok content)
    → text_content text ≡ 1 ∷ content
    → ⊥
unsigned_apart [] content opens is = cc
unsigned_apart (first ∷ rest) content opens is =
    by (first == 1) content opens refl (sym (text_by first rest) ∙ is)
  where
    by : (test : Bool) (content : List ℕ)
        → Opens 115 (Ok content)
        → (first == 1) ≡ test
        → signed_by test first rest ≡ 1 ∷ content
        → ⊥
    by test [] opens test_is is = opens
    by true (letter ∷ content) opens test_is is = let it : letter ≡ 115 = cc in opens it
    by false (letter ∷ content) opens test_is is =
        let it : first ≡ 1 = cc in absurd (grind (arith, nat_tests, it, test_is))

measured_same : (text other : List ℕ)
    → IsShort text
    → IsShort other
    → codes "s" ++ measured text ≡ codes "s" ++ measured other
    → text ≡ other
measured_same text other short other_short is =
    let it : measured text ≡ measured other = cc in
    cut_measured text other [] [] short other_short (ap (λ all. all ++ []) it)

held_short : (held : Option Cell) (text : List ℕ)
    → text_in held ≡ Some text
    → HeldWords held
    → IsShort text
held_short None text is words = absurd (cc)
held_short (Some (cell.Text held)) text is words =
    let it : held ≡ text = cc in subst IsShort it words
held_short (Some _) text is words = absurd (cc)

value_short : (heap : HeapState) (value : Val) (text : List ℕ)
    → All (λ held. HasWords held.cell) heap.cells
    → text_in (cell_at heap value) ≡ Some text
    → IsShort text
value_short heap (val.Cell number) text all is =
    held_short (cell_at heap (val.Cell number)) text is (held_words heap.cells number all)
value_short heap val.None text all is = absurd (cc)
value_short heap (val.Bool flag) text all is = absurd (cc)
value_short heap (val.Int number) text all is = absurd (cc)

module _ (heap : HeapState) (all : All (λ held. HasWords held.cell) heap.cells) where
  deep_text : (value : Val) (text : List ℕ)
      → text_in (cell_at heap value) ≡ Some text
      → content_within deepest heap value ≡ Ok (codes "s" ++ measured text)
  deep_text value text is =
      content_layer deepest heap value ∙ value_text (inner_content deepest heap) heap value text is

  deep_other : (value : Val)
      → text_in (cell_at heap value) ≡ None
      → Opens 115 (content_within deepest heap value)
  deep_other value is =
      subst (Opens 115) (sym (content_layer deepest heap value))
      (value_other (inner_content deepest heap) (inner_opens deepest heap) heap value is)

  -- a string beside a key that is none
  text_other : (answer : Result Bool Fault) (text content : List ℕ) (other : Content)
      → Tells answer (Ok (codes "s" ++ measured text)) other
      → Opens 115 other
      → marked other ≡ Ok content
      → answer ≡ Ok (bytes_eq (text_content text) content)
  text_other answer text content (Err reason) tells opens is = absurd (cc)
  text_other answer text content (Ok []) tells opens is = absurd opens
  text_other answer text content (Ok (letter ∷ other)) tells opens is =
      let it : 1 ∷ letter ∷ other ≡ content = cc in
      subst (λ one. answer ≡ Ok (bytes_eq (text_content text) one)) it
      (settled answer (codes "s" ++ measured text) (letter ∷ other) (text_content text)
      (1 ∷ letter ∷ other) tells
      (λ same. let first : letter ≡ 115 = cc in absurd (opens first))
      (λ same. absurd (unsigned_apart text (letter ∷ other) opens same)))

  other_text : (answer : Result Bool Fault) (text content : List ℕ) (other : Content)
      → Tells answer other (Ok (codes "s" ++ measured text))
      → Opens 115 other
      → marked other ≡ Ok content
      → answer ≡ Ok (bytes_eq content (text_content text))
  other_text answer text content (Err reason) tells opens is = absurd (cc)
  other_text answer text content (Ok []) tells opens is = absurd opens
  other_text answer text content (Ok (letter ∷ other)) tells opens is =
      let it : 1 ∷ letter ∷ other ≡ content = cc in
      subst (λ one. answer ≡ Ok (bytes_eq one (text_content text))) it
      (settled answer (letter ∷ other) (codes "s" ++ measured text) (1 ∷ letter ∷ other)
      (text_content text) tells
      (λ same. let first : letter ≡ 115 = cc in absurd (opens first))
      (λ same. absurd (unsigned_apart text (letter ∷ other) opens (sym same))))

  -- two keys that are no strings
  others_both : (answer : Result Bool Fault) (one other : Content) (content other_content : List ℕ)
      → Tells answer one other
      → marked one ≡ Ok content
      → marked other ≡ Ok other_content
      → answer ≡ Ok (bytes_eq content other_content)
  others_both answer (Err reason) other content other_content tells is other_is = absurd (cc)
  others_both answer (Ok one) (Err reason) content other_content tells is other_is = absurd (cc)
  others_both answer (Ok one) (Ok other) content other_content tells is other_is =
      let first : 1 ∷ one ≡ content = cc in
      let second : 1 ∷ other ≡ other_content = cc in
      settled answer one other content other_content tells
      (λ same. sym first ∙ ap (λ text. 1 ∷ text) same ∙ second)
      (λ same. let it : 1 ∷ one ≡ 1 ∷ other = first ∙ same ∙ sym second in cc)

  keys_by : (one other : Val) (held other_held : Option (List ℕ)) (content other_content : List ℕ)
      → HasWord one
      → HasWord other
      → text_in (cell_at heap one) ≡ held
      → text_in (cell_at heap other) ≡ other_held
      → content_by held heap one ≡ Ok content
      → content_by other_held heap other ≡ Ok other_content
      → equal heap one other ≡ Ok (bytes_eq content other_content)
  keys_by one other (Some text) (Some other_text) content other_content words other_words held_is
      other_held_is is other_is =
      let first : text_content text ≡ content = cc in
      let second : text_content other_text ≡ other_content = cc in
      let tells : Tells (equal heap one other) (Ok (codes "s" ++ measured text))
      (Ok (codes "s" ++ measured other_text)) =
      subst (λ right. Tells (equal heap one other) (Ok (codes "s" ++ measured text)) right)
      (deep_text other other_text other_held_is)
      (subst (λ left. Tells (equal heap one other) left (content_within deepest heap other))
      (deep_text one text held_is) (tells_within deepest heap all one other words other_words)) in
      settled (equal heap one other) (codes "s" ++ measured text) (codes "s" ++ measured other_text)
      content other_content tells
      (λ same. sym first ∙ ap text_content (measured_same text other_text
      (value_short heap one text all held_is) (value_short heap other other_text all other_held_is)
      same) ∙ second)
      (λ same. ap (λ one. codes "s" ++ measured one)
      (same_text text other_text (first ∙ same ∙ sym second)))
  keys_by one other (Some text) None content other_content words other_words held_is other_held_is
      is other_is =
      let first : text_content text ≡ content = cc in
      subst (λ left. equal heap one other ≡ Ok (bytes_eq left other_content)) first
      (text_other (equal heap one other) text other_content (content_within deepest heap other)
      (subst (λ left. Tells (equal heap one other) left (content_within deepest heap other))
      (deep_text one text held_is) (tells_within deepest heap all one other words other_words))
      (deep_other other other_held_is) other_is)
  keys_by one other None (Some text) content other_content words other_words held_is other_held_is
      is other_is =
      let second : text_content text ≡ other_content = cc in
      subst (λ right. equal heap one other ≡ Ok (bytes_eq content right)) second
      (other_text (equal heap one other) text content (content_within deepest heap one)
      (subst (λ right. Tells (equal heap one other) (content_within deepest heap one) right)
      (deep_text other text other_held_is)
      (tells_within deepest heap all one other words other_words))
      (deep_other one held_is) is)
  keys_by one other None None content other_content words other_words held_is other_held_is is
      other_is =
      others_both (equal heap one other) (content_within deepest heap one)
      (content_within deepest heap other) content other_content
      (tells_within deepest heap all one other words other_words) is other_is

pub keys_are_one : KeysAreOneByContent
keys_are_one heap one other content other_content all words other_words is other_is =
    keys_by heap all one other (text_in (cell_at heap one)) (text_in (cell_at heap other)) content
    other_content words other_words refl refl is other_is
