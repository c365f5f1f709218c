use Rattle.std.proofs.Common.{◌≡◌, [], ◌∷◌, ◌++◌, ap, sym, ◌∙◌}
use Rattle.registry_index.specs.AskedFiles.{with_hash}
use Rattle.registry_index.proofs.UrlSets.{absent_if_added, present_unless_added, set_finds}
use Rattle.registry_index.proofs.UrlSets.{with_hash-known, with_hash-new}
use Rattle.registry_index.proofs.asked_files.AskedFiles.add.Goals as goal

pub returns-in_ok-push-clause-added : goal.returns-in_ok-push-clause-added
returns-in_ok-push-clause-added c =
    let own = ap (λ asked. asked.hashes) c.self.view_is in
    let finds = set_finds c.into_string-text.result c.args.url c.self.inside.urls.keys
    c.self.inside.hashes.items (c.into_string-text.ensures ∙ c.in_ok-copy.ensures)
    c.self.invariant in
    let absent = sym finds ∙ absent_if_added _ _ c.in_ok-is_new.ensures.added c.if-is_new.true in
    let hashes : c.push.new.self.items ≡ with_hash c.args.url c.args.hash c.args.self.now.hashes =
    c.in_ok-push.ensures.items
    ∙ ap (λ all. all ++ record { url = c.args.url; hash = c.args.hash } ∷ [])
    c.reserve.ensures.items
    ∙ sym (with_hash-new c.args.url c.args.hash c.self.inside.hashes.items absent)
    ∙ ap (with_hash c.args.url c.args.hash) own in
    λ i. record { hashes = hashes i; bases = (c.self.view_is i).bases }

pub returns-else-is_new-clause-added : goal.returns-else-is_new-clause-added
returns-else-is_new-clause-added c =
    let own = ap (λ asked. asked.hashes) c.self.view_is in
    let finds = set_finds c.into_string-text.result c.args.url c.self.inside.urls.keys
    c.self.inside.hashes.items (c.into_string-text.ensures ∙ c.in_ok-copy.ensures)
    c.self.invariant in
    let present = sym finds
    ∙ present_unless_added _ _ c.in_ok-is_new.ensures.added c.if-is_new.false in
    let hashes : c.reserve.new.self.items
    ≡ with_hash c.args.url c.args.hash c.args.self.now.hashes =
    c.reserve.ensures.items
    ∙ sym (with_hash-known c.args.url c.args.hash c.self.inside.hashes.items present)
    ∙ ap (with_hash c.args.url c.args.hash) own in
    λ i. record { hashes = hashes i; bases = (c.self.view_is i).bases }
