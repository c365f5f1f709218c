-- The text of `graph`: of the root, what is discovered and then selected.
use Rattle.std.specs.Prelude.{ℕ, List, Result, Ok, Err, codes}
use Rattle.bz_base.specs.declared.declarations.ModuleDecl.{ModuleDecl}
use Rattle.bz_base.specs.declared.module_graph.Graph.{Graph}
use Rattle.bz_base.specs.declared.module_graph.Selected.{Selected}
use Rattle.bz_base.specs.declared.refusals.Refusal.{Refusal}
use Rattle.discovery.specs.Discovery.{discovered}
use Rattle.mod_command.specs.GraphTexts.{graph_lines}
use Rattle.mod_command.specs.RootFiles.{root_of}
use Rattle.selection.specs.Selection.{selected_of}
use Rattle.bz_tree.specs.Places.{Files}

abbrev pub text_of_selected : Graph → Result Selected Refusal → Result (List ℕ) Refusal
text_of_selected graph (Ok selected) = Ok (graph_lines graph selected)
text_of_selected graph (Err refusal) = Err refusal

abbrev pub text_of_graph : Result Graph Refusal → Result (List ℕ) Refusal
text_of_graph (Ok graph) = text_of_selected graph (selected_of graph)
text_of_graph (Err refusal) = Err refusal

abbrev pub text_of_root : Files → Result ModuleDecl Refusal → Result (List ℕ) Refusal
text_of_root look (Ok decl) = text_of_graph (discovered look decl)
text_of_root look (Err refusal) = Err refusal

-- the text of the workspace whose files these are, or its first refusal
abbrev pub graph_text_of : Files → Result (List ℕ) Refusal
graph_text_of look = text_of_root look (root_of (look (codes "MODULE.bazel")))
