-- Each law is a lemma of its own.
use Rattle.sym_terms.specs.Codes.{sum_total}
use Rattle.sym_terms.specs.Plain.{symbol}
use Rattle.sym_terms.proofs.SumLemmas.{plus_times_normal}
use Rattle.sym_terms.proofs.AtomLemmas.{alone_normal, fit_normal, pair_normal}
use Rattle.term_laws.proofs.AtomValueLemmas.{number_value, symbol_value, times_value, fit_value, pair_value, value_below, constant_value}
use Rattle.term_laws.proofs.LooseLemmas.{normal_normal, normal_same, normal_value}
use Rattle.term_laws.proofs.CoefficientLemmas.{plus_times_constant, plus_times_coefficient, same_coefficients}
use Rattle.term_laws.proofs.LawLemmas.{equal_same, plus_value, minus_value, one_value, offset_value, limits}
use Rattle.term_laws.proofs.MentionLemmas.{mentioned_value}
use Rattle.term_laws.proofs.SymbolLemmas.{symbol_exactly}
use Rattle.term_laws.proofs.laws.laws_of_terms.Goals as goal

pub returns-clause-order : goal.returns-clause-order
returns-clause-order c = record {
  total = sum_total;
  equal = equal_same;
}

pub returns-clause-normal : goal.returns-clause-normal
returns-clause-normal c = record {
  symbols = λ s h. alone_normal (symbol s) h;
  sums = plus_times_normal;
  fits = fit_normal;
  pairs = pair_normal;
  forms = normal_normal;
  own = normal_same;
}

pub returns-clause-sums : goal.returns-clause-sums
returns-clause-sums c = record {
  constants = plus_times_constant;
  coefficients = plus_times_coefficient;
  one = same_coefficients;
}

pub returns-clause-values : goal.returns-clause-values
returns-clause-values c u range = record {
  constants = number_value u range;
  symbols = symbol_value u range;
  sums = plus_value u range;
  differences = minus_value u range;
  multiples = times_value u range;
  fits = fit_value u range;
  pairs = pair_value u range;
  forms = normal_value u range;
  same = one_value u range;
  below = value_below u range;
  known = constant_value u range;
  offsets = offset_value u range;
}

pub returns-clause-mentioned : goal.returns-clause-mentioned
returns-clause-mentioned c = mentioned_value

pub returns-clause-limit : goal.returns-clause-limit
returns-clause-limit c = limits

pub returns-clause-symbol : goal.returns-clause-symbol
returns-clause-symbol c = symbol_exactly
