use Rattle.std.proofs.Common.{sym}
use Rattle.std.proofs.lemmas.Str.{IsUtf8-from_ascii}
use Rattle.module_file.proofs.LiteralTexts.{below-all}
use Rattle.module_file.proofs.literal_form.ascii_text.Goals as goal

pub unreachable-requires : goal.unreachable-requires
unreachable-requires c =
    c.in-Err.ensures.cases.0
    (IsUtf8-from_ascii c.args.bytes.now
    (below-all c.args.bytes.now (sym c.if-not-is_ascii.ensures)))
