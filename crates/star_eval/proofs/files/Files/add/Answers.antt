use Rattle.std.proofs.Common.{subst}
use Rattle.star_compiler.specs.Emitted.{IsCompiled}
use Rattle.star_eval.proofs.Pairs.{added_is, added_loaded}
use Rattle.star_eval.proofs.files.Files.add.Goals as goal

pub invariant_of-result : goal.invariant_of-result
invariant_of-result c =
    let compiled = subst (λ file. IsCompiled file c.args.heap c.in_ok-compiled.compiled) c.get.ensures
    c.in_ok-compiled.ensures in
    rw (c.in_ok-push.ensures.items, c.in_ok-push-2.ensures.items)
    (added_loaded _ _ _ _ compiled.coded c.self.invariant)

pub returns : goal.returns
returns c =
    let compiled = subst (λ file. IsCompiled file c.args.heap c.in_ok-compiled.compiled) c.get.ensures
    c.in_ok-compiled.ensures in
    rw (
      ← c.self.view_is,
      c.in_ok-push.ensures.items,
      c.in_ok-push-2.ensures.items,
      c.in_ok-push-3.ensures.items,
    )
    (added_is c.self.inside.programs.items c.self.inside.coded.items c.self.inside.names.items
    c.args.file c.args.name c.args.heap c.in_ok-compiled.compiled c.self.invariant compiled)
