-- Each law is a lemma of its own.
use Rattle.number_laws.proofs.LowBitsLemmas.{cut_below, cut_residue, cut_same, cut_again, cut_narrower, cut_sums, cut_products, sext_below, sext_agree, sext_from_cut, sext_again, sext_same, sext_whole}
use Rattle.number_laws.proofs.laws.low_bits_laws.Goals as goal

pub returns-clause-cut : goal.returns-clause-cut
returns-clause-cut c = record {
  below = cut_below;
  residue = cut_residue;
  same = cut_same;
  again = cut_again;
  narrower = cut_narrower;
  sums = cut_sums;
  products = cut_products;
}

pub returns-clause-sext : goal.returns-clause-sext
returns-clause-sext c = record {
  below = sext_below;
  agree = sext_agree;
  from_cut = sext_from_cut;
  again = sext_again;
  same = sext_same;
  whole = sext_whole;
}
