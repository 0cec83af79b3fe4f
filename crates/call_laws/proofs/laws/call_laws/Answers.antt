use Rattle.value_laws.proofs.Ground.{Ground}
use Rattle.call_laws.proofs.CallLemmas.{call_law, syscall_law}
use Rattle.call_laws.proofs.TargetLemmas.{target_law}
use Rattle.call_laws.proofs.laws.call_laws.Goals as goal

pub returns : goal.returns
returns c =
    let g : Ground = record {
      cut = c.low_bits_laws.ensures.cut;
      sext = c.low_bits_laws.ensures.sext;
      compared = c.comparison_laws.ensures;
      integers = c.arithmetic_laws.ensures.integers;
      sums = c.arithmetic_laws.ensures.sums;
      shifts = c.arithmetic_laws.ensures.shifts;
      products = c.arithmetic_laws.ensures.products;
      order = c.laws_of_terms.ensures.order;
      normal = c.laws_of_terms.ensures.normal;
      values = c.laws_of_terms.ensures.values;
      mentioned = c.laws_of_terms.ensures.mentioned;
      tables = c.table_laws.ensures.tables;
      jumps = c.table_laws.ensures.jumps;
      states = c.step_laws.ensures.states;
      ranges = c.step_laws.ensures.ranges;
      stores = c.step_laws.ensures.stores;
      places = c.step_laws.ensures.place;
      returns = c.step_laws.ensures.returns;
      forest = record {
        store = c.forest_laws.ensures.store;
        load = c.forest_laws.ensures.load;
        alias = c.forest_laws.ensures.alias;
        forget = c.forest_laws.ensures.forget;
        find = c.forest_laws.ensures.find;
        clear = c.forest_laws.ensures.clear;
      };
    } in
    record { call = call_law g; syscall = syscall_law g; target = target_law g }
