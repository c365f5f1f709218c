use Rattle.std.proofs.Common.{◌≡◌, ◌∙◌, ◌+◌, ap, drop}
use Rattle.star_core.specs.Dicts.{Entry, with_entry}
use Rattle.star_operators.specs.Binary.{united}
use Rattle.star_operators.proofs.UnitedEntries.{united_on}
use Rattle.star_operators.proofs.uniting.put_all.Goals as goal

pub putting-preserved : goal.putting-preserved
putting-preserved c =
    let entry : Entry = record { content = c.in-Some.content.now; pair = c.in-Some.pair.now } in
    let put : c.put.new.self ≡ with_entry entry.content entry.pair c.putting.dict =
    c.in_ok-put.ensures.ok
    ∙ ap (λ text. with_entry text entry.pair c.putting.dict) c.in_ok-of.ensures in
    ap (λ dict. united dict (drop (c.putting.index + 1) c.args.others.now)) put
    ∙ united_on c.putting.dict c.args.others.now (united c.args.dict.now c.args.others.now)
    c.putting.index entry c.in-Some.ensures.entry c.putting.invariant
