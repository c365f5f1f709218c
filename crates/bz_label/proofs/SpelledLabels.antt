-- A text falls apart into a label's parts exactly where the grammar has it.
use Rattle.std.proofs.Common.{◌≡◌, ℕ, Bool, true, false, ◌&&◌, List, [], ◌∷◌, ◌++◌, Result, Ok, Err}
use Rattle.std.proofs.Common.{Option, None, Some, MatchOption, IfOk, IsTrue, option_map}
use Rattle.std.proofs.Common.{option_and_then, refl, ap, ◌∙◌, sym, subst}
use Rattle.std.proofs.lemmas.Bool.{and_parts, and_from, cond-true, cond-false, cond_both, ne_eqb}
use Rattle.std.proofs.lemmas.Bool.{true≢false}
use Rattle.std.proofs.lemmas.List.Splits.{slice_split-cons_yes}
use Rattle.std.proofs.Math.Dec.{eqb}
use Rattle.std.specs.List.{list_all}
use Rattle.bz_text.specs.Answers.{Gives, UnlessOutOfMemory}
use Rattle.bz_base.specs.Names.{is_apparent, is_apparent_byte, is_canonical, is_canonical_byte}
use Rattle.bz_base.specs.Names.{is_label_byte, is_package, is_segment, is_segmented}
use Rattle.bz_base.specs.Paths.{segments_of}
use Rattle.bz_text.specs.declared.memory.Miss.{Miss}
use Rattle.bz_text.specs.declared.memory.Miss.TheVariants.{OutOfMemory, Because}
use Rattle.bz_label.specs.declared.label_text.BadLabel.{BadLabel}
use Rattle.bz_label.specs.declared.label_text.LabelText.{LabelText}
use Rattle.bz_label.specs.declared.label_text.RepoPart.{RepoPart}
use Rattle.bz_label.specs.declared.label_text.RepoPart.TheVariants.{Home, Apparent, Canonical}
use Rattle.bz_text.specs.Cuts.{behind, cut, cut_at_root}
use Rattle.bz_label.specs.Grammar as grammar
use Rattle.bz_label.specs.Grammar.{SpellsLabel, is_repo, repo_text}
use Rattle.bz_label.specs.Parts.{alone_parts, at_home, bad_label, home_or_elsewhere, label_parts}
use Rattle.bz_label.specs.Parts.{last_segment, marked_repo, repo_of, repo_parts, rooted_parts}
use Rattle.bz_label.specs.Parts.{rootless_or_rooted, target_parts, unmarked_repo}
use Rattle.bz_text.proofs.CutLists.{IsBehind, IsBehind-behind, IsCut, IsCut-cut, Lacks, cut-at}
use Rattle.bz_text.proofs.CutLists.{cut-none}
use Rattle.bz_text.proofs.CutParts.{parts_at-joined}

-- ---- from the parts to the grammar

at_home-spells : (text name : List ℕ)
    → (IsTrue (is_segmented name)
    → SpellsLabel text (record { repo = Home; «package» = None; name = name }))
    → IfOk (at_home name) (SpellsLabel text)
at_home-spells text name spells = cond_both (is_segmented name) _ _
    (λ r. IfOk r (SpellsLabel text)) spells (λ _. tt)

-- what a repository part is spelled like
abbrev IsRepo : List ℕ → Result RepoPart BadLabel → Type 0
IsRepo text r = IfOk r (λ repo. (text ≡ repo_text repo) × IsTrue (is_repo repo))

IsRepo-marked : (text name : List ℕ)
    → text ≡ 64 ∷ name
    → IsRepo text (marked_repo name (behind 64 name))
IsRepo-marked text name e = by (behind 64 name) (IsBehind-behind 64 name)
  where
    by : (r : Option (List ℕ)) → IsBehind 64 name r → IsRepo text (marked_repo name r)
    by None h = cond_both (is_apparent name) _ _ (IsRepo text) (λ good. (e, good)) (λ _. tt)
    by (Some canonical) h = cond_both (is_canonical canonical) _ _ (IsRepo text)
        (λ good. (e ∙ ap (λ x. 64 ∷ x) h, good)) (λ _. tt)

IsRepo-repo_of : (text : List ℕ) → IsRepo text (repo_of text)
IsRepo-repo_of [] = (refl, refl)
IsRepo-repo_of (b ∷ bs) = by (behind 64 (b ∷ bs)) (IsBehind-behind 64 (b ∷ bs))
  where
    by : (r : Option (List ℕ)) → IsBehind 64 (b ∷ bs) r → IsRepo (b ∷ bs) (unmarked_repo r)
    by None h = tt
    by (Some name) h = IsRepo-marked (b ∷ bs) name h

target_parts-spells : (text : List ℕ) (repo : RepoPart) (target : List ℕ)
    → text ≡ repo_text repo ++ 47 ∷ 47 ∷ target
    → IsTrue (is_repo repo)
    → IfOk (target_parts repo target (cut 58 target)) (SpellsLabel text)
target_parts-spells text repo target e good = by (cut 58 target) (IsCut-cut 58 target)
  where
    by : (r : Option (List ℕ × List ℕ))
        → IsCut 58 target r
        → IfOk (target_parts repo target r) (SpellsLabel text)
    by None h = cond_both (is_segmented target) _ _ (λ r. IfOk r (SpellsLabel text))
        (λ segmented. subst (λ t. SpellsLabel t (record {
          repo = repo;
          «package» = Some target;
          name
              = last_segment target;
        })) (sym e) (grammar.package_alone repo target good segmented))
        (λ _. tt)
    by (Some parts) h = cond_both (is_package parts.0 && is_segmented parts.1) _ _
        (λ r. IfOk r (SpellsLabel text))
        (λ both. subst (λ t. SpellsLabel t (record {
          repo = repo;
          «package» = Some parts.0;
          name =
              parts.1;
        })) (sym (e ∙ ap (λ t. repo_text repo ++ 47 ∷ 47 ∷ t) h.0))
        (grammar.named repo parts.0 parts.1 good (and_parts _ _ both).0 (and_parts _ _ both).1))
        (λ _. tt)

rooted_parts-spells : (text front target : List ℕ)
    → text ≡ front ++ 47 ∷ 47 ∷ target
    → IfOk (rooted_parts (repo_of front) target) (SpellsLabel text)
rooted_parts-spells text front target e = by (repo_of front) (IsRepo-repo_of front)
  where
    by : (r : Result RepoPart BadLabel)
        → IsRepo front r
        → IfOk (rooted_parts r target) (SpellsLabel text)
    by (Err bad) h = tt
    by (Ok repo) h = target_parts-spells text repo target
        (e ∙ ap (λ f. f ++ 47 ∷ 47 ∷ target) h.0) h.1

repo_parts-spells : (text : List ℕ) → IfOk (repo_parts (repo_of text)) (SpellsLabel text)
repo_parts-spells text = by (repo_of text) (IsRepo-repo_of text)
  where
    by : (r : Result RepoPart BadLabel) → IsRepo text r → IfOk (repo_parts r) (SpellsLabel text)
    by (Err bad) h = tt
    by (Ok Home) h = tt
    by (Ok (Apparent name)) h = cond_both (is_segment name) _ _ (λ r. IfOk r (SpellsLabel text))
        (λ segment. subst (λ t. SpellsLabel t (record {
          repo = Apparent name;
          «package» = Some [];
          name = name;
        })) (sym h.0) (grammar.apparent_alone name h.1 segment)) (λ _. tt)
    by (Ok (Canonical name)) h = cond_both (is_segment name) _ _ (λ r. IfOk r (SpellsLabel text))
        (λ segment. subst (λ t. SpellsLabel t (record {
          repo = Canonical name;
          «package» = Some [];
          name = name;
        })) (sym h.0) (grammar.canonical_alone name h.1 segment)) (λ _. tt)

alone_parts-spells : (text : List ℕ) → IfOk (alone_parts (behind 64 text) text) (SpellsLabel text)
alone_parts-spells text = by (behind 64 text) refl
  where
    by : (r : Option (List ℕ)) → behind 64 text ≡ r → IfOk (alone_parts r text) (SpellsLabel text)
    by None e = at_home-spells text text (λ segmented. grammar.bare text segmented e)
    by (Some name) e = repo_parts-spells text

-- the cut behind the first slash
abbrev rooted_rest : List ℕ × List ℕ → Option (List ℕ × List ℕ)
rooted_rest parts = option_map (λ target. (parts.0, target)) (behind 47 parts.1)

-- what the cut at `//` says of the text
abbrev IsRooted : List ℕ → Option (List ℕ × List ℕ) → Type 0
IsRooted text r = MatchOption r (Unit {0}) (λ parts. text ≡ parts.0 ++ 47 ∷ 47 ∷ parts.1)

IsRooted-cut_at_root : (text : List ℕ) → IsRooted text (cut_at_root text)
IsRooted-cut_at_root text = by (cut 47 text) (IsCut-cut 47 text)
  where
    further : (front rest : List ℕ)
        → text ≡ front ++ 47 ∷ rest
        → (r : Option (List ℕ))
        → IsBehind 47 rest r
        → IsRooted text (option_map (λ target. (front, target)) r)
    further front rest e None h = tt
    further front rest e (Some target) h = e ∙ ap (λ t. front ++ 47 ∷ t) h

    by : (r : Option (List ℕ × List ℕ))
        → IsCut 47 text r
        → IsRooted text (option_and_then rooted_rest r)
    by None h = tt
    by (Some parts) h = further parts.0 parts.1 h.0 (behind 47 parts.1) (IsBehind-behind 47 parts.1)

elsewhere-spells : (text : List ℕ)
    → IfOk (rootless_or_rooted text (cut_at_root text)) (SpellsLabel text)
elsewhere-spells text = by (cut_at_root text) (IsRooted-cut_at_root text)
  where
    by : (r : Option (List ℕ × List ℕ))
        → IsRooted text r
        → IfOk (rootless_or_rooted text r) (SpellsLabel text)
    by None h = alone_parts-spells text
    by (Some parts) h = rooted_parts-spells text parts.0 parts.1 h

pub label_parts-spells : (text : List ℕ) → IfOk (label_parts text) (SpellsLabel text)
label_parts-spells text = by (behind 58 text) (IsBehind-behind 58 text)
  where
    by : (r : Option (List ℕ))
        → IsBehind 58 text r
        → IfOk (home_or_elsewhere text r) (SpellsLabel text)
    by None h = elsewhere-spells text
    by (Some name) h = at_home-spells text name
        (λ segmented. subst (λ t. SpellsLabel t (record {
          repo = Home;
          «package» = None;
          name = name;
        })) (sym h) (grammar.at_home name segmented))

-- ---- from the grammar to the parts

Lacks-list_all : (test : ℕ → Bool) (mark : ℕ)
    → test mark ≡ false
    → (bs : List ℕ)
    → list_all test bs ≡ true
    → Lacks mark bs
Lacks-list_all test mark fails [] h = tt
Lacks-list_all test mark fails (b ∷ bs) h =
    let parts = and_parts (test b) (list_all test bs) h in (
      ne_eqb b mark (λ e. true≢false (sym parts.0 ∙ ap test e ∙ fails)),
      Lacks-list_all test mark
          fails bs parts.1,
    )

behind-Lacks : (mark : ℕ) (bs : List ℕ) → Lacks mark bs → behind mark bs ≡ None
behind-Lacks mark [] h = refl
behind-Lacks mark (b ∷ bs) h = cond-false _ _ _ h.0

Lacks-segmented : (text : List ℕ) → is_segmented text ≡ true → Lacks 58 text
Lacks-segmented text h = Lacks-list_all is_label_byte 58 refl text (and_parts _ _ h).0

Lacks-package : (text : List ℕ) → is_package text ≡ true → Lacks 58 text
Lacks-package [] h = tt
Lacks-package (b ∷ bs) h = Lacks-segmented (b ∷ bs) h

pub Lacks-repo : (repo : RepoPart) → is_repo repo ≡ true → Lacks 47 (repo_text repo)
Lacks-repo Home h = tt
Lacks-repo (Apparent name) h = (refl, Lacks-list_all is_apparent_byte 47 refl name h)
Lacks-repo (Canonical name) h = (refl, (refl, Lacks-list_all is_canonical_byte 47 refl name h))

marked_repo-apparent : (name : List ℕ)
    → is_apparent name ≡ true
    → marked_repo name (behind 64 name) ≡ Ok (Apparent name)
marked_repo-apparent name h =
    ap (marked_repo name) (behind-Lacks 64 name (Lacks-list_all is_apparent_byte 64 refl name h))
    ∙ cond-true _ _ _ h

repo_of-repo_text : (repo : RepoPart) → is_repo repo ≡ true → repo_of (repo_text repo) ≡ Ok repo
repo_of-repo_text Home h = refl
repo_of-repo_text (Apparent name) h = marked_repo-apparent name h
repo_of-repo_text (Canonical name) h = cond-true _ _ _ h

cut_at_root-front : (front target : List ℕ)
    → Lacks 47 front
    → cut_at_root (front ++ 47 ∷ 47 ∷ target) ≡ Some (front, target)
cut_at_root-front front target h =
    ap (option_and_then rooted_rest) (cut-at 47 front (47 ∷ target) h)

rooted-front : (repo : RepoPart) (target : List ℕ)
    → is_repo repo ≡ true
    → label_parts (repo_text repo ++ 47 ∷ 47 ∷ target) ≡ target_parts repo target (cut 58 target)
rooted-front repo target h =
    front repo ∙ ap (rootless_or_rooted (repo_text repo ++ 47 ∷ 47 ∷ target)) (cut_at_root-front
    (repo_text repo) target (Lacks-repo repo h))
    ∙ ap (λ r. rooted_parts r target) (repo_of-repo_text repo h)
  where
    front : (part : RepoPart)
        → label_parts (repo_text part ++ 47 ∷ 47 ∷ target)
        ≡ rootless_or_rooted (repo_text part ++ 47 ∷ 47 ∷ target)
        (cut_at_root (repo_text part ++ 47 ∷ 47 ∷ target))
    front Home = refl
    front (Apparent name) = refl
    front (Canonical name) = refl

behind-segment : (text : List ℕ)
    → list_all is_segment (segments_of text) ≡ true
    → behind 47 text ≡ None
behind-segment [] h = refl
behind-segment (b ∷ bs) h = cond-false _ _ _ (by (eqb b 47) refl)
  where
    by : (t : Bool) → eqb b 47 ≡ t → eqb b 47 ≡ false
    by true e = absurd (true≢false (sym h ∙ ap (list_all is_segment) (slice_split-cons_yes (λ x. eqb
        x 47) b bs e)))
    by false e = e

cut_at_root-segmented : (text : List ℕ) → is_segmented text ≡ true → cut_at_root text ≡ None
cut_at_root-segmented text h = by (cut 47 text) (IsCut-cut 47 text)
  where
    by : (r : Option (List ℕ × List ℕ)) → IsCut 47 text r → option_and_then rooted_rest r ≡ None
    by None lacks = refl
    by (Some parts) cuts =
        let segments : list_all is_segment (segments_of text) ≡ true = (and_parts _ _ h).1 in
        let joined : segments_of text ≡ parts.0 ∷ segments_of parts.1 = ap segments_of cuts.0
        ∙ parts_at-joined 47 parts.0 parts.1 cuts.1 in
        let rest : list_all is_segment (segments_of parts.1)
        ≡ true = (and_parts _ _ (sym (ap (list_all is_segment) joined) ∙ segments)).1 in
        let joined_rest : List ℕ → List ℕ × List ℕ = λ target. (parts.0, target) in
        ap (option_map joined_rest) (behind-segment parts.1 rest)

alone_front : (repo : RepoPart) → is_repo repo ≡ true → cut_at_root (repo_text repo) ≡ None
alone_front repo h =
    ap (option_and_then rooted_rest) (cut-none 47 (repo_text repo) (Lacks-repo repo h))

pub label_parts-spelled : (text : List ℕ) (parts : LabelText)
    → SpellsLabel text parts
    → label_parts text ≡ Ok parts
label_parts-spelled _ _ (grammar.named repo pkg name good packaged segmented) =
    rooted-front repo (pkg ++ 58 ∷ name) good
    ∙ ap (target_parts repo (pkg ++ 58 ∷ name))
    (cut-at 58 pkg name (Lacks-package pkg packaged))
    ∙ cond-true _ _ _ (and_from _ _ packaged segmented)
label_parts-spelled _ _ (grammar.package_alone repo pkg good segmented) =
    rooted-front repo pkg good
    ∙ ap (target_parts repo pkg) (cut-none 58 pkg (Lacks-segmented pkg segmented))
    ∙ cond-true _ _ _ segmented
label_parts-spelled _ _ (grammar.apparent_alone name good segment) =
    ap (rootless_or_rooted (64 ∷ name)) (alone_front (Apparent name) good)
    ∙ ap repo_parts (marked_repo-apparent name good) ∙ cond-true _ _ _ segment
label_parts-spelled _ _ (grammar.canonical_alone name good segment) =
    ap (rootless_or_rooted (64 ∷ 64 ∷ name)) (alone_front (Canonical name) good)
    ∙ ap repo_parts (cond-true _ _ _ good) ∙ cond-true _ _ _ segment
label_parts-spelled _ _ (grammar.at_home name segmented) = cond-true _ _ _ segmented
label_parts-spelled _ _ (grammar.bare name segmented unmarked) =
    ap (home_or_elsewhere name) (behind-Lacks 58 name (Lacks-segmented name segmented))
    ∙ ap (rootless_or_rooted name) (cut_at_root-segmented name segmented)
    ∙ ap (λ r. alone_parts r name) unmarked ∙ cond-true _ _ _ segmented

-- ---- what a call that gives the parts tells of the grammar

pub Gives-spells : (text : List ℕ) (r : Result LabelText (Miss BadLabel))
    → Gives (label_parts text) r
    → IfOk r (SpellsLabel text)
Gives-spells text (Ok parts) e = subst (λ r. IfOk r (SpellsLabel text)) e (label_parts-spells text)
Gives-spells text (Err miss) e = tt

pub Gives-no_label : (text : List ℕ) (r : Result LabelText (Miss BadLabel))
    → Gives (label_parts text) r
    → r ≡ Err (Because bad_label)
    → (parts : LabelText)
    → ¬ SpellsLabel text parts
Gives-no_label text (Ok given) e is parts spells = absurd (cc)
Gives-no_label text (Err OutOfMemory) e is parts spells = absurd (cc)
Gives-no_label text (Err (Because bad)) e is parts spells =
    let spelled : label_parts text ≡ Ok parts = label_parts-spelled text parts spells in absurd (cc)

pub one_reading : (text : List ℕ) (parts other : LabelText)
    → SpellsLabel text parts
    → SpellsLabel text other
    → parts ≡ other
one_reading text parts other one two =
    let first : label_parts text ≡ Ok parts = label_parts-spelled text parts one in
    let second : label_parts text ≡ Ok other = label_parts-spelled text other two in cc

pub Gives-given : (text : List ℕ) (r : Result LabelText (Miss BadLabel))
    → Gives (label_parts text) r
    → (parts : LabelText)
    → SpellsLabel text parts
    → UnlessOutOfMemory (λ given. given ≡ Ok parts) r
Gives-given text (Ok given) e parts spells = sym e ∙ label_parts-spelled text parts spells
Gives-given text (Err OutOfMemory) e parts spells = tt
Gives-given text (Err (Because bad)) e parts spells = sym e ∙ label_parts-spelled text parts spells
