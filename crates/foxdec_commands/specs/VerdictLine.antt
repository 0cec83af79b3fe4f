-- The line that `check` prints of a verdict.
use Rattle.std.specs.Prelude.{ℕ, true, false, List, ◌++◌, codes}
use Rattle.std.specs.Fmt.{decimal}
use Rattle.graph_verdict.specs.declared.verdict.Broken.{Broken}
use Rattle.graph_verdict.specs.declared.verdict.Verdict.{Verdict}
use Rattle.graph_verdict.specs.declared.verdict.Verdict.TheVariants.{Valid, Invalid}
use Rattle.graph_lines.specs.Text.{hex}
use Rattle.graph_verdict.specs.Verdict.{rule_name}
use Rattle.foxdec_commands.specs.Ending.{Ending, printed}

-- no rule is broken
abbrev pub valid_line : List ℕ
valid_line = codes "valid\n"

-- the place of the first broken rule, addresses in hexadecimal, and its name
abbrev pub invalid_line : Broken → List ℕ
invalid_line broken =
    codes "invalid " ++ hex broken.function ++ codes " " ++ hex broken.site
    ++ codes " " ++ decimal broken.vertex ++ codes " " ++ decimal broken.case
    ++ codes " " ++ rule_name broken.rule ++ codes "\n"

-- how a run ends with a verdict
abbrev pub verdict_ending : Verdict → Ending
verdict_ending Valid = printed true valid_line
verdict_ending (Invalid broken) = printed false (invalid_line broken)
