use Rattle.std.proofs.Common.{◌≡◌, ℕ, List, Some, true, subst, string_bytes}
use Rattle.std.proofs.lemmas.Map.Text.{btree_set_updates_text}
use Rattle.star_expressions.specs.NameSets.{Adds}
use Rattle.star_expressions.proofs.NameLists.{Adds-some}
use Rattle.star_expressions.proofs.arg_orders.add_name.Goals as goal

pub returns : goal.returns
returns c =
    let name_is : string_bytes c.in_ok-name.name
    ≡ c.args.name.now = cc (c.in_ok-name.ensures.ok, c.as_str.ensures) in
    subst (λ (name : List ℕ). Adds (Some name) c.args.names.now c.insert.new.self
    c.in_ok-insert.field-0) name_is
    (Adds-some (string_bytes c.in_ok-name.name) c.args.names.now c.insert.new.self
    c.in_ok-insert.field-0 c.in_ok-insert.ensures.added
    (btree_set_updates_text
    (string_bytes c.in_ok-name.name) c.args.names.now c.insert.new.self true
    c.in_ok-insert.ensures.updates))
