-- What stands at which kind of site.
use Rattle.std.specs.Prelude.{Bool, true, false}
use Rattle.predicates.specs.declared.site.Kind.{Kind}
use Rattle.predicates.specs.declared.site.Kind.TheVariants.{Step, Call, Outside, Return, End}

-- whether sites of the kind have edges and may have pairs that are taken as separate
abbrev pub has_edges : Kind → Bool
has_edges Step = true
has_edges (Call entry) = true
has_edges Outside = true
has_edges Return = false
has_edges (End reason) = false

-- whether sites of the kind may have a pair of which cases are told apart
abbrev pub may_fork : Kind → Bool
may_fork Step = true
may_fork (Call entry) = false
may_fork Outside = false
may_fork Return = false
may_fork (End reason) = false

-- whether sites of the kind may have regions that a callee leaves as they were
abbrev pub may_keep : Kind → Bool
may_keep Step = false
may_keep (Call entry) = true
may_keep Outside = true
may_keep Return = false
may_keep (End reason) = false
