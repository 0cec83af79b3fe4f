-- The graph of `push rbx; pop rbx; ret` is well formed.
use Rattle.std.proofs.Common.{ℕ, ◌<◌, Some, refl, arith}
use Rattle.std.specs.Prelude.{slice_set}
use Rattle.sym_terms.specs.declared.kinds.Sym.{Sym}
use Rattle.sym_terms.specs.declared.kinds.Sym.TheVariants.{Entry, Ra}
use Rattle.sym_terms.specs.Plain.{PlainSum, single_atom, symbol, IsSymbol}
use Rattle.sym_terms.specs.Normal.{IsTerm}
use Rattle.mem_forest.proofs.SingleLemmas.{forest_from}
use Rattle.predicates.specs.Entry.{entry_predicate}
use Rattle.x86_instr.specs.Registers.{rsp}
use Rattle.graph_data.specs.Parts.{Each}
use Rattle.graph_data.specs.WellFormed.{IsKnown, IsPred, IsSite, IsWellFormed}
use Rattle.push_witness.specs.Witness.{top, below, after_push, after_pop, push_site, pop_site, ret_site, graph}

symbol_term : (s : Sym) → IsSymbol s → IsTerm (single_atom (symbol s))
symbol_term s is = record { normal = (omega arith, (is, omega arith, omega arith, tt, tt)); small = omega arith }

entry_term : (r : ℕ) → r < 16 → IsTerm (single_atom (symbol (Entry r)))
entry_term r lt = symbol_term (Entry r) lt

below_term : IsTerm below
below_term = record { normal = (omega arith, (omega arith, omega arith, omega arith, tt, tt)); small = omega arith }

-- the entry's registers, with any term for the stack pointer
known_registers : (t : PlainSum) → IsTerm t → Each IsKnown (slice_set entry_predicate.regs rsp (Some t))
known_registers t is = (
  entry_term 0 (omega arith),
  (
    entry_term 1 (omega arith),
    (
      entry_term 2 (omega arith),
      (
        entry_term 3 (omega arith),
        (
          is,
          (
            entry_term 5 (omega arith),
            (
              entry_term 6 (omega arith),
              (
                entry_term 7 (omega arith),
                (
                  entry_term 8 (omega arith),
                  (
                    entry_term 9 (omega arith),
                    (
                      entry_term 10 (omega arith),
                      (
                        entry_term 11 (omega arith),
                        (entry_term 12 (omega arith), (entry_term 13 (omega arith), (entry_term 14 (omega arith), (entry_term 15 (omega arith), tt)))),
                      ),
                    ),
                  ),
                ),
              ),
            ),
          ),
        ),
      ),
    ),
  ),
)

top_term : IsTerm top
top_term = entry_term rsp (omega arith)

back_term : IsTerm (single_atom (symbol Ra))
back_term = symbol_term Ra tt

entry_formed : IsPred entry_predicate
entry_formed = record {
  formed = record { sixteen = refl; bounded = refl };
  regs = known_registers top top_term;
  flags = tt;
  bounds = tt;
  forest = forest_from entry_predicate.forest refl refl refl;
  terms = ((top_term, tt), (back_term, (tt, tt)));
}

push_formed : IsPred after_push
push_formed = record {
  formed = record { sixteen = refl; bounded = refl };
  regs = known_registers below below_term;
  flags = tt;
  bounds = tt;
  forest = forest_from after_push.forest refl refl refl;
  terms = ((top_term, tt), (back_term, (tt, ((below_term, tt), (entry_term 3 (omega arith), (tt, tt))))));
}

pop_formed : IsPred after_pop
pop_formed = record {
  formed = record { sixteen = refl; bounded = refl };
  regs = known_registers top top_term;
  flags = tt;
  bounds = tt;
  forest = push_formed.forest;
  terms = push_formed.terms;
}

push_site_formed : IsSite push_site
push_site_formed = record {
  addr = omega arith;
  kind = tt;
  seps = tt;
  seps_fit = refl;
  fork = tt;
  fork_fits = refl;
  keeps = tt;
  keeps_fit = refl;
  vertices = (record { pred = entry_formed; edges = ((omega arith, omega arith), tt); fits = refl }, tt);
  vertices_fit = refl;
}

pop_site_formed : IsSite pop_site
pop_site_formed = record {
  addr = omega arith;
  kind = tt;
  seps = tt;
  seps_fit = refl;
  fork = tt;
  fork_fits = refl;
  keeps = tt;
  keeps_fit = refl;
  vertices = (record { pred = push_formed; edges = ((omega arith, omega arith), tt); fits = refl }, tt);
  vertices_fit = refl;
}

ret_site_formed : IsSite ret_site
ret_site_formed = record {
  addr = omega arith;
  kind = tt;
  seps = tt;
  seps_fit = refl;
  fork = tt;
  fork_fits = refl;
  keeps = tt;
  keeps_fit = refl;
  vertices = (record { pred = pop_formed; edges = tt; fits = refl }, tt);
  vertices_fit = refl;
}

pub graph_formed : IsWellFormed graph
graph_formed = record {
  functions = (
    record {
      entry = omega arith;
      body = record {
        below = omega arith;
        above = omega arith;
        some = omega arith;
        sites = (push_site_formed, (pop_site_formed, (ret_site_formed, tt)));
        ascending = (omega arith, (omega arith, tt));
      };
    },
    tt,
  );
  ascending = tt;
}
