use Rattle.module_file.proofs.LiteralFiles.{form_is_read, form_is_spelled}
use Rattle.module_file.proofs.laws.literal_form_is_read.Goals as goal

pub returns-clause-read : goal.returns-clause-read
returns-clause-read c = form_is_spelled

pub returns-clause-spelled : goal.returns-clause-spelled
returns-clause-spelled c = form_is_read
