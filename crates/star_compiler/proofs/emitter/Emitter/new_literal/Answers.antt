use Rattle.std.proofs.Common.{rules, refl}
use Rattle.star_compiler.proofs.Literals.{literal_put}
use Rattle.star_compiler.proofs.emitter.Emitter.new_literal.Goals as goal

pub returns : goal.returns
returns c =
    literal_put c.args.text.now c.args.self.now
    (record {
      blocks = c.args.self.now.blocks;
      names = c.args.self.now.names;
      shapes = c.args.self.now.shapes;
      literals = c.put.new.self;
      least = c.args.self.now.least;
      heap = c.literal.new.self;
      alloc = c.args.self.now.alloc;
    }) c.in-Ok.value (record { key = c.in-Ok.value; value = c.in-Ok.value }) c.requires refl
    (search rules) (search rules) (search rules) refl refl refl refl
