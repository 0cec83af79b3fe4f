-- What is left of a predicate once the old value of a name is forgotten.
use Rattle.std.specs.Prelude.{not, ◌||◌, if◌then◌else◌, Option, Some, None, map, filter}
use Rattle.sym_terms.specs.declared.kinds.Sym.{Sym}
use Rattle.sym_terms.specs.Plain.{PlainSum}
use Rattle.sym_terms.specs.Mentions.{mentions}
use Rattle.mem_forest.specs.Forget.{forget}
use Rattle.predicates.specs.declared.bound.FlagFact.{FlagFact}
use Rattle.predicates.specs.Predicate.{Predicate}
use Rattle.x86_instr.specs.declared.instr.Instr.{Instr}
use Rattle.step_rules.specs.Names.{name}

-- a term, where it doesn't mention the symbol
abbrev pub term_without : Sym → Option PlainSum → Option PlainSum
term_without s None = None
term_without s (Some t) = if mentions s t then None else Some t

-- a flag fact, where neither of its terms mentions the symbol
abbrev pub fact_without : Sym → Option FlagFact → Option FlagFact
fact_without s None = None
fact_without s (Some f) = if mentions s f.left || mentions s f.right then None else Some f

-- the facts of a predicate that don't mention the symbol
abbrev pub without : Sym → Predicate → Predicate
without s p = record {
  regs = map (term_without s) p.regs;
  flags = fact_without s p.flags;
  bounds = filter (λ b. not (mentions s b.key)) p.bounds;
  forest = forget s p.forest;
}

-- the facts that don't mention the name of the instruction's site
abbrev pub dropped : Instr → Predicate → Predicate
dropped i p = without (name i) p
