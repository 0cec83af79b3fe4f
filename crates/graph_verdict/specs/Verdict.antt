-- The printed names of the rules.
use Rattle.std.specs.Prelude.{ℕ, List, codes}
use Rattle.graph_verdict.specs.declared.verdict.Rule.{Rule}
use Rattle.graph_verdict.specs.declared.verdict.Rule.TheVariants as rule

-- a rule's name in lower case
abbrev pub rule_name : Rule → List ℕ
rule_name rule.Entry = codes "entry"
rule_name rule.Kind = codes "kind"
rule_name rule.Callee = codes "callee"
rule_name rule.Decided = codes "decided"
rule_name rule.Fork = codes "fork"
rule_name rule.Target = codes "target"
rule_name rule.Keep = codes "keep"
rule_name rule.Cases = codes "cases"
rule_name rule.Return = codes "return"
rule_name rule.Address = codes "address"
rule_name rule.Vertex = codes "vertex"
rule_name rule.Register = codes "register"
rule_name rule.Flags = codes "flags"
rule_name rule.Bound = codes "bound"
rule_name rule.Cell = codes "cell"
rule_name rule.Functions = codes "functions"
rule_name rule.Refused = codes "refused"
rule_name rule.Frame = codes "frame"
rule_name rule.Reason = codes "reason"
rule_name rule.Outside = codes "outside"
rule_name rule.Assumed = codes "assumed"
rule_name rule.Forked = codes "forked"
rule_name rule.Inedge = codes "inedge"
rule_name rule.Exact = codes "exact"
