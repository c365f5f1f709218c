-- Files as an evaluation may rest on them.
use Rattle.star_trees.specs.Counted.{VariablesAreCounted}
use Rattle.star_trees.specs.Nesting.{NestedWithin, deepest}
use Rattle.star_trees.specs.Orders.{HasNoRefusedForm}
use Rattle.star_trees.specs.Mentions.{FunctionsAreMentioned}
use Rattle.star_trees.specs.Indexes.{IndexesAreThere}
use Rattle.star_trees.specs.declared.files.File.{File}

-- Its functions and loads are there, each function is mentioned once and as what it is, its
-- variables stand where their names do, nothing in it is deeper than the deepest allowed, and it has no form that
-- the grammar refuses.
pub record WellFormed (file : File) : Type 0 where
  pub indexes : IndexesAreThere file
  pub functions : FunctionsAreMentioned file
  pub variables : VariablesAreCounted file
  pub nested : NestedWithin deepest file
  pub forms : HasNoRefusedForm file
