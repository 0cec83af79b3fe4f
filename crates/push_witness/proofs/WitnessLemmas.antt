-- The graph of `push rbx; pop rbx; ret` keeps the rules of every instruction.
use Rattle.std.proofs.Common.{◌≡◌, ℕ, zero, suc, ◌<◌, false, [], ◌∷◌, Some, map, refl, sym, subst, arith, get_or}
use Rattle.std.specs.Prelude.{is_some}
use Rattle.std.specs.Option.{IsSomeAnd, option_map}
use Rattle.std.proofs.lemmas.List.Elements.{All-nil, All-cons}
use Rattle.simulation.specs.World.{Step, Return, Ordinary, Returning}
use Rattle.simulation.specs.Graph.{view_of}
use Rattle.simulation.specs.Valid.{EdgesHold, EachVertex, StepHolds, KindHolds, SiteHolds, FunctionHolds}
use Rattle.bits_core.specs.declared.width.Width.TheVariants.{W64}
use Rattle.elf_image.specs.Segments.{IsSegment}
use Rattle.elf_image.specs.Image.{IsImage}
use Rattle.sym_terms.specs.declared.kinds.Sym.TheVariants.{Entry}
use Rattle.sym_terms.specs.Plain.{single_atom, symbol}
use Rattle.sym_terms.specs.Normal.{plus_times, within_node_limit}
use Rattle.memory_regions.specs.Relate.{relate}
use Rattle.predicates.specs.Entry.{entry_predicate}
use Rattle.entailment_laws.specs.Laws.{ReflexiveLaw}
use Rattle.predicate_meaning.specs.Sat.{register}
use Rattle.predicate_meaning.specs.Returns.{saved_registers, Returns}
use Rattle.graph_data.specs.declared.graph.Vertex.{Vertex}
use Rattle.graph_data.specs.declared.graph.Site.{Site}
use Rattle.graph_data.specs.declared.graph.Function.{Function}
use Rattle.x86_instr.specs.declared.instr.Op.TheVariants as op
use Rattle.x86_instr.specs.declared.instr.Operand.TheVariants as operand
use Rattle.x86_instr.specs.declared.instr.Instr.{Instr}
use Rattle.x86_decode.specs.Reading.{prefix_len, rex_at, escaped_at, opcode_at, digit_at, row_at as row_of, little_at, modrm_for, fields_at, encoding_at, decode_at, instr_at as read_at, first_instr}
use Rattle.instr_at.specs.At.{instr_in, instr_at}
use Rattle.step_rules.specs.Access.{with_register, part_term, address_term, address_term_of, bytes_term, known_term, read_term, after_read, merged_term, with_bytes, write_term}
use Rattle.step_rules.specs.Cases as step_cases
use Rattle.graph_runs.specs.World.{x86}
use Rattle.graph_rules.specs.Rules.{view_of as seen, case_of, rules}
use Rattle.push_witness.proofs.GraphLemmas.{graph_formed}
use Rattle.push_witness.specs.Witness.{place, segment, image, after_push, after_pop, push_site, pop_site, ret_site, function, graph, Witnesses}

-- ---- the instructions

abbrev push : Instr
push = record { addr = place; len = 1; op = op.Push; width = W64; src_width = W64; cc = 0; dst = operand.Reg 3; src = operand.None; extra = 0 }

abbrev pop : Instr
pop = record { addr = 0x400079; len = 1; op = op.Pop; width = W64; src_width = W64; cc = 0; dst = operand.Reg 3; src = operand.None; extra = 0 }

abbrev ret : Instr
ret = record { addr = 0x40007a; len = 1; op = op.Ret; width = W64; src_width = W64; cc = 0; dst = operand.None; src = operand.None; extra = 0 }

reads_push : instr_at image place ≡ Some push
unfolding instr_in first_instr read_at decode_at encoding_at prefix_len rex_at fields_at opcode_at escaped_at digit_at row_of little_at modrm_for
reads_push = refl

reads_pop : instr_at image 0x400079 ≡ Some pop
unfolding instr_in first_instr read_at decode_at encoding_at prefix_len rex_at fields_at opcode_at escaped_at digit_at row_of little_at modrm_for
reads_pop = refl

reads_ret : instr_at image 0x40007a ≡ Some ret
unfolding instr_in first_instr read_at decode_at encoding_at prefix_len rex_at fields_at opcode_at escaped_at digit_at row_of little_at modrm_for
reads_ret = refl

-- ---- the cases

push_cases : step_cases.cases (seen image (view_of (x86 image) function push_site)) push entry_predicate ≡ Some (record { address = 0x400079; pred = after_push } ∷ [])
unfolding plus_times within_node_limit relate register with_register part_term address_term address_term_of bytes_term known_term read_term after_read merged_term with_bytes write_term
push_cases = refl

pop_cases : step_cases.cases (seen image (view_of (x86 image) function pop_site)) pop after_push ≡ Some (record { address = 0x40007a; pred = after_pop } ∷ [])
unfolding plus_times within_node_limit relate register with_register part_term address_term address_term_of bytes_term known_term read_term after_read merged_term with_bytes write_term
pop_cases = refl

-- ---- the sites

module _ (same : ReflexiveLaw) where
  push_holds : KindHolds (x86 image) (rules image) graph function push_site Step
  push_holds =
      let P : Vertex → Type 0 = StepHolds (x86 image) (rules image) (record { function = function; site = push_site; instr = push }) in
      let v : Vertex = record { pred = entry_predicate; out = (0x400079, 0) ∷ [] } in
      let edges : P v =
      record {
        fork = refl;
        cases =
            subst (λ o. IsSomeAnd (option_map (map case_of) o) (λ cases. EdgesHold (x86 image) (rules image) function cases v.out)) (sym push_cases)
            (record { address = refl; vertex = same after_push }, tt);
      } in
      subst (λ o. IsSomeAnd o (λ i. EachVertex (x86 image) (record { function = function; site = push_site; instr = i }) (λ class. class ≡ Ordinary)
      (StepHolds (x86 image) (rules image) (record { function = function; site = push_site; instr = i })))) (sym reads_push)
      (record { class = refl; each = All-cons P v [] edges (All-nil P) })

  pop_holds : KindHolds (x86 image) (rules image) graph function pop_site Step
  pop_holds =
      let P : Vertex → Type 0 = StepHolds (x86 image) (rules image) (record { function = function; site = pop_site; instr = pop }) in
      let v : Vertex = record { pred = after_push; out = (0x40007a, 0) ∷ [] } in
      let edges : P v =
      record {
        fork = refl;
        cases =
            subst (λ o. IsSomeAnd (option_map (map case_of) o) (λ cases. EdgesHold (x86 image) (rules image) function cases v.out)) (sym pop_cases)
            (record { address = refl; vertex = same after_pop }, tt);
      } in
      subst (λ o. IsSomeAnd o (λ i. EachVertex (x86 image) (record { function = function; site = pop_site; instr = i }) (λ class. class ≡ Ordinary)
      (StepHolds (x86 image) (rules image) (record { function = function; site = pop_site; instr = i })))) (sym reads_pop)
      (record { class = refl; each = All-cons P v [] edges (All-nil P) })

  returns : Returns after_pop
  unfolding register
  returns = record { stack = refl; back = refl; saved = λ k d lt. kept k d lt }
    where
      kept : (k : ℕ) (d : ℕ) → k < 6 → register after_pop (get_or saved_registers k d) ≡ Some (single_atom (symbol (Entry (get_or saved_registers k d))))
      kept zero d lt = refl
      kept (suc zero) d lt = refl
      kept (suc (suc zero)) d lt = refl
      kept (suc (suc (suc zero))) d lt = refl
      kept (suc (suc (suc (suc zero)))) d lt = refl
      kept (suc (suc (suc (suc (suc zero))))) d lt = refl
      kept (suc (suc (suc (suc (suc (suc k)))))) d lt = absurd (omega (arith, lt))

  ret_holds : KindHolds (x86 image) (rules image) graph function ret_site Return
  ret_holds =
      subst (λ o. IsSomeAnd o (λ i. EachVertex (x86 image) (record { function = function; site = ret_site; instr = i }) (λ class. class ≡ Returning) (λ v. Returns v.pred))) (sym reads_ret)
      (record { class = refl; each = All-cons (λ (v : Vertex). Returns v.pred) (record { pred = after_pop; out = [] }) [] returns (All-nil (λ (v : Vertex). Returns v.pred)) })

  function_holds : FunctionHolds (x86 image) (rules image) graph function
  function_holds =
      let P : Site → Type 0 = SiteHolds (x86 image) (rules image) graph function in
      record {
        entry = refl;
        sites =
            All-cons P push_site (pop_site ∷ ret_site ∷ []) (record { fact = record { seps = All-nil _; fork = tt }; kind = push_holds })
            (All-cons P pop_site (ret_site ∷ []) (record { fact = record { seps = All-nil _; fork = tt }; kind = pop_holds })
            (All-cons P ret_site [] (record { fact = record { seps = All-nil _; fork = tt }; kind = ret_holds }) (All-nil P)));
      }

  -- ---- the image and the graph

  is_formed : IsImage image
  is_formed = record {
    each = All-cons IsSegment segment [] (record { not_empty = omega arith; ends = omega arith; holds_file = omega arith }) (All-nil IsSegment);
    ascend = λ i j d before inside. absurd (omega (arith, before, inside));
  }

  pub witness : Witnesses
  witness = record {
    image_formed = is_formed;
    graph_formed = graph_formed;
    valid =
        let P : Function → Type 0 = λ f. is_some f.refused ≡ false → FunctionHolds (x86 image) (rules image) graph f in
        All-cons P function [] (λ e. function_holds) (All-nil P);
  }
