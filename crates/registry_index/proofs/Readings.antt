-- Steps over a tree, one behind another.
use Rattle.std.proofs.Common.{◌≡◌, ℕ, ◌≤◌, List, [], ◌∷◌, ◌++◌, Option, None, Some, IfSome, Result}
use Rattle.std.proofs.Common.{Ok}
use Rattle.std.proofs.Common.{Err, inl, inr, refl, ap, sym, ◌∙◌, subst, arith}
use Rattle.bz_base.specs.declared.refusals.Refusal.{Refusal}
use Rattle.bz_text.specs.Answers.{Gives}
use Rattle.bz_text.specs.declared.memory.Miss.{Miss}
use Rattle.bz_text.specs.declared.memory.Miss.TheVariants as miss
use Rattle.bz_tree.proofs.Readings.{IfSome-told, IfSome-from_told, run_of}
use Rattle.bz_tree.specs.Failures.{GivesOver, failure_of_miss}
use Rattle.bz_tree.specs.Places.{Files}
use Rattle.bz_tree.specs.declared.failures.Failure.{Failure}
use Rattle.bz_tree.specs.declared.failures.Failure.TheVariants.{Refused, ReadFault, OutOfMemory}
use Rattle.registry_index.specs.AskedFiles.{Asked, AsksOver, FailedIn, Leaves, Reading, Step}
use Rattle.registry_index.specs.AskedFiles.{StoppedIn, after_step, after_steps, and_then, followed}
use Rattle.registry_index.specs.AskedFiles.{ask, settled}
use Rattle.registry_index.specs.Registries.{FileOf}
use Rattle.bz_tree.specs.declared.tree.Found.{Found}

after_steps-append : (look : Files) (steps more : List Step) (asked : Asked)
    → after_steps look (steps ++ more) asked ≡ after_steps look more (after_steps look steps asked)
after_steps-append look [] more asked = refl
after_steps-append look (step ∷ steps) more asked = after_steps-append look steps more
    (after_step look step asked)

FailedIn-front : (look : Files) (path : List ℕ) (steps more : List Step) (before now : Asked)
    → FailedIn look path steps before now
    → FailedIn look path (steps ++ more) before now
FailedIn-front look path [] more before now failed = absurd failed
FailedIn-front look path (step ∷ steps) more before now (inl failed) = inl failed
FailedIn-front look path (step ∷ steps) more before now (inr failed) = inr
    (FailedIn-front look path steps more (after_step look step before) now failed)

FailedIn-behind : (look : Files) (path : List ℕ) (steps more : List Step) (before now : Asked)
    → FailedIn look path more (after_steps look steps before) now
    → FailedIn look path (steps ++ more) before now
FailedIn-behind look path [] more before now failed = failed
FailedIn-behind look path (step ∷ steps) more before now failed = inr
    (FailedIn-behind look path steps more (after_step look step before) now failed)

pub StoppedIn-begin : (look : Files) (steps : List Step) (before now : Asked)
    → now ≡ before
    → StoppedIn look steps before now
StoppedIn-begin look [] before now same = same
StoppedIn-begin look (step ∷ steps) before now same = inl same

StoppedIn-front : (look : Files) (steps more : List Step) (before now : Asked)
    → StoppedIn look steps before now
    → StoppedIn look (steps ++ more) before now
StoppedIn-front look [] more before now stopped = StoppedIn-begin look more before now stopped
StoppedIn-front look (step ∷ steps) more before now (inl stopped) = inl stopped
StoppedIn-front look (step ∷ steps) more before now (inr stopped) = inr
    (StoppedIn-front look steps more (after_step look step before) now stopped)

StoppedIn-behind : (look : Files) (steps more : List Step) (before now : Asked)
    → StoppedIn look more (after_steps look steps before) now
    → StoppedIn look (steps ++ more) before now
StoppedIn-behind look [] more before now stopped = stopped
StoppedIn-behind look (step ∷ steps) more before now stopped = inr
    (StoppedIn-behind look steps more (after_step look step before) now stopped)

pub Leaves-behind : {B : Type 0} (look : Files) (steps more : List Step) (before now : Asked)
    (result : Result B Failure)
    → Leaves look more (after_steps look steps before) now result
    → Leaves look (steps ++ more) before now result
Leaves-behind look steps more before now (Ok value) left =
    left ∙ sym (after_steps-append look steps more before)
Leaves-behind look steps more before now (Err (Refused refusal)) left =
    left ∙ sym (after_steps-append look steps more before)
Leaves-behind look steps more before now (Err (ReadFault path)) left =
    FailedIn-behind look path steps more before now left
Leaves-behind look steps more before now (Err OutOfMemory) left =
    StoppedIn-behind look steps more before now left

-- what a part gives and the whole too
pub GivesOver-through : {A : Type 0} (part whole : Files → Result A Refusal)
    (files kept files_now : Option Files) (before middle now : ℕ) (failed : List ℕ)
    (result : Result A Failure)
    → kept ≡ files
    → before ≤ middle
    → ((look : Files) → files ≡ Some look → whole look ≡ part look)
    → GivesOver part (run_of kept files_now middle now failed) result
    → GivesOver whole (run_of files files_now before now failed) result
GivesOver-through part whole files kept files_now before middle now failed (Ok value) same grows
    equal given =
    IfSome-from_told files (λ look. whole look ≡ Ok value)
    (λ look e. equal look e
    ∙ IfSome-told kept (λ l. part l ≡ Ok value) given look (same ∙ e))
GivesOver-through part whole files kept files_now before middle now failed (Err (Refused refusal))
    same grows equal given =
    IfSome-from_told files (λ look. whole look ≡ Err refusal)
    (λ look e. equal look e
    ∙ IfSome-told kept (λ l. part l ≡ Err refusal) given look (same ∙ e))
GivesOver-through part whole files kept files_now before middle now failed (Err (ReadFault path))
    same grows equal given = ((λ below. omega (arith, given.0 below, grows)), given.1)
GivesOver-through part whole files kept files_now before middle now failed (Err OutOfMemory) same
    grows equal given = tt

-- one reading that gave a value, and then another
pub AsksOver-then : {A B : Type 0} (part : Files → Reading A) (next : Files → A → Reading B)
    (files kept files_now : Option Files) (before middle now : ℕ) (failed_then failed : List ℕ)
    (asked between left : Asked) (value : A) (result : Result B Failure)
    → AsksOver part (run_of files kept before middle failed_then) asked between (Ok value)
    → AsksOver (λ look. next look value) (run_of kept files_now middle now failed) between left
    result
    → AsksOver (λ look. and_then (part look) (next look)) (run_of files files_now before now failed)
    asked left result
AsksOver-then {A} {B} part next files kept files_now before middle now failed_then failed asked
    between left value result first further =
    let answers = λ (look : Files) (e : files ≡ Some look). IfSome-told files
    (λ l. (part l).answer ≡ Ok value) first.0.0 look e in
    let whole = λ (look : Files) (e : files ≡ Some look). ap
    (λ answer. followed (part look).steps answer (next look)) (answers look e) in (
      (
        GivesOver-through (λ look. (next look value).answer)
            (λ look. (and_then (part look) (next look)).answer) files kept files_now before middle
            now failed result first.0.1 first.0.2
            (λ look e. ap (λ reading. reading.answer) (whole look e)) further.0.0,
        further.0.1 ∙ first.0.1,
        omega (arith, further.0.2, first.0.2),
      ),
      IfSome-from_told files
          (λ look. Leaves look (and_then (part look) (next look)).steps asked left result)
          (λ look e.
          let began = IfSome-told files (λ l. between ≡ after_steps l (part l).steps asked) first.1
          look e in
          let ended = IfSome-told kept (λ l. Leaves l (next l value).steps between left result)
          further.1 look (first.0.1 ∙ e) in
          subst (λ steps. Leaves look steps asked left result)
          (sym (ap (λ reading. reading.steps) (whole look e)))
          (Leaves-behind look (part look).steps (next look value).steps asked left result
          (subst (λ state. Leaves look (next look value).steps state left result) began ended))),
    )

FailedIn-followed : {A B : Type 0} (look : Files) (path : List ℕ) (steps : List Step)
    (answer : Result A Refusal) (next : A → Reading B) (before now : Asked)
    → FailedIn look path steps before now
    → FailedIn look path (followed steps answer next).steps before now
FailedIn-followed look path steps (Ok value) next before now failed =
    FailedIn-front look path steps (next value).steps before now failed
FailedIn-followed look path steps (Err refusal) next before now failed = failed

StoppedIn-followed : {A B : Type 0} (look : Files) (steps : List Step)
    (answer : Result A Refusal) (next : A → Reading B) (before now : Asked)
    → StoppedIn look steps before now
    → StoppedIn look (followed steps answer next).steps before now
StoppedIn-followed look steps (Ok value) next before now stopped =
    StoppedIn-front look steps (next value).steps before now stopped
StoppedIn-followed look steps (Err refusal) next before now stopped = stopped

-- a reading that failed, behind which another would have come
pub AsksOver-failed : {A B : Type 0} (part : Files → Reading A) (next : Files → A → Reading B)
    (files files_now : Option Files) (before now : ℕ) (failed : List ℕ) (asked left : Asked)
    (failure : Failure)
    → AsksOver part (run_of files files_now before now failed) asked left (Err failure)
    → AsksOver (λ look. and_then (part look) (next look)) (run_of files files_now before now failed)
    asked left (Err failure)
AsksOver-failed part next files files_now before now failed asked left (Refused refusal) first =
    let answers = λ (look : Files) (e : files ≡ Some look). IfSome-told files
    (λ l. (part l).answer ≡ Err refusal) first.0.0 look e in
    let whole = λ (look : Files) (e : files ≡ Some look). ap
    (λ answer. followed (part look).steps answer (next look)) (answers look e) in (
      (
        IfSome-from_told files (λ look. (and_then (part look) (next look)).answer ≡ Err refusal)
            (λ look e. ap (λ reading. reading.answer) (whole look e)),
        first.0.1,
        first.0.2,
      ),
      IfSome-from_told files
          (λ look. left ≡ after_steps look (and_then (part look) (next look)).steps asked)
          (λ look e. IfSome-told files (λ l. left ≡ after_steps l (part l).steps asked) first.1 look
          e ∙ ap (λ reading. after_steps look reading.steps asked) (sym (whole look e))),
    )
AsksOver-failed part next files files_now before now failed asked left (ReadFault path) first = (
  first.0,
  IfSome-from_told files
      (λ look. FailedIn look path (and_then (part look) (next look)).steps asked left)
      (λ look e. FailedIn-followed look path (part look).steps (part look).answer (next look)
      asked left
      (IfSome-told files (λ l. FailedIn l path (part l).steps asked left) first.1 look e)),
)
AsksOver-failed part next files files_now before now failed asked left OutOfMemory first = (
  first.0,
  IfSome-from_told files
      (λ look. StoppedIn look (and_then (part look) (next look)).steps asked left)
      (λ look e. StoppedIn-followed look (part look).steps (part look).answer (next look) asked
      left (IfSome-told files (λ l. StoppedIn l (part l).steps asked left) first.1 look e)),
)

-- no memory, before any step
pub AsksOver-stopped : {A : Type 0} (wanted : Files → Reading A) (files : Option Files) (count : ℕ)
    (failed : List ℕ) (asked left : Asked)
    → left ≡ asked
    → AsksOver wanted (run_of files files count count failed) asked left (Err OutOfMemory)
AsksOver-stopped wanted files count failed asked left same = (
  (tt, refl, omega arith),
  IfSome-from_told files (λ look. StoppedIn look (wanted look).steps asked left)
      (λ look e. StoppedIn-begin look (wanted look).steps asked left same),
)

-- a value without a step
pub AsksOver-given : {A : Type 0} (wanted : Result A Refusal) (files : Option Files) (count : ℕ)
    (failed : List ℕ) (asked : Asked) (value : A)
    → wanted ≡ Ok value
    → AsksOver (λ look. settled wanted) (run_of files files count count failed) asked asked
    (Ok value)
AsksOver-given wanted files count failed asked value given = (
  (IfSome-from_told files (λ look. wanted ≡ Ok value) (λ look e. given), refl, omega arith),
  IfSome-from_told files (λ look. asked ≡ asked) (λ look e. refl),
)

-- nothing without a step
pub AsksOver-missed : {A : Type 0} (wanted : Result A Refusal) (files : Option Files) (count : ℕ)
    (failed : List ℕ) (asked : Asked) (missed : Miss Refusal)
    → Gives wanted (Err missed)
    → AsksOver (λ look. settled wanted) (run_of files files count count failed) asked asked
    (Err (failure_of_miss missed))
AsksOver-missed wanted files count failed asked miss.OutOfMemory given =
    AsksOver-stopped (λ look. settled wanted) files count failed asked asked refl
AsksOver-missed wanted files count failed asked (miss.Because refusal) given = (
  (IfSome-from_told files (λ look. wanted ≡ Err refusal) (λ look e. given), refl, omega arith),
  IfSome-from_told files (λ look. asked ≡ asked) (λ look e. refl),
)

-- a file that is asked, and what is answered by what stands there
pub AsksOver-settled : {A : Type 0} (other file : FileOf) (wanted : Found → Result A Refusal)
    (files files_now : Option Files) (before now : ℕ) (failed : List ℕ) (asked left : Asked)
    (found : Found) (result : Result A Failure)
    → other ≡ file
    → AsksOver (λ look. ask look other) (run_of files files_now before now failed) asked left
    (Ok found)
    → AsksOver (λ look. settled (wanted found)) (run_of files_now files_now now now failed) left
    left
    result
    → AsksOver (λ look. and_then (ask look file) (λ there. settled (wanted there)))
    (run_of files files_now before now failed) asked left result
AsksOver-settled other file wanted files files_now before now failed asked left found result same
    first further =
    AsksOver-then (λ look. ask look file) (λ look there. settled (wanted there)) files files_now
    files_now before now now failed failed asked left left found result
    (subst (λ one. AsksOver (λ look. ask look one) (run_of files files_now before now failed) asked
    left (Ok found)) same first) further

-- what is left of a walk, and the walk from its beginning
pub AsksOver-onward : {A : Type 0} (rest whole : Files → Reading A)
    (files kept files_now : Option Files) (before middle now : ℕ) (failed : List ℕ)
    (asked between left : Asked) (result : Result A Failure)
    → kept ≡ files
    → before ≤ middle
    → ((look : Files)
    → files ≡ Some look
    → ((rest look).answer ≡ (whole look).answer)
    × ((end : Result A Failure) (last : Asked)
    → Leaves look (rest look).steps between last end
    → Leaves look (whole look).steps asked last end))
    → AsksOver rest (run_of kept files_now middle now failed) between left result
    → AsksOver whole (run_of files files_now before now failed) asked left result
AsksOver-onward rest whole files kept files_now before middle now failed asked between left result
    same grows onward given = (
      (
        GivesOver-through (λ look. (rest look).answer) (λ look. (whole look).answer) files kept
            files_now before middle now failed result same grows
            (λ look e. sym ((onward look e).0)) given.0.0,
        given.0.1 ∙ same,
        omega (arith, given.0.2, grows),
      ),
      IfSome-from_told files (λ look. Leaves look (whole look).steps asked left result)
          (λ look e. (onward look e).1 result left
          (IfSome-told kept (λ l. Leaves l (rest l).steps between left result) given.1 look
          (same ∙ e))),
    )

-- a refusal without a step
pub AsksOver-refused : {A : Type 0} (wanted : Result A Refusal) (files : Option Files) (count : ℕ)
    (failed : List ℕ) (asked : Asked) (refusal : Refusal)
    → wanted ≡ Err refusal
    → AsksOver (λ look. settled wanted) (run_of files files count count failed) asked asked
    (Err (Refused refusal))
AsksOver-refused wanted files count failed asked refusal given =
    AsksOver-missed wanted files count failed asked (miss.Because refusal) given
