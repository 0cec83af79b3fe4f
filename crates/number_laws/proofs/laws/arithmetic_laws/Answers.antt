-- Each group of laws is a record of lemmas.
use Rattle.number_laws.proofs.ArithmeticLemmas.{integer_laws, sum_laws, shift_laws, product_laws}
use Rattle.number_laws.proofs.laws.arithmetic_laws.Goals as goal

pub returns-clause-integers : goal.returns-clause-integers
returns-clause-integers c = integer_laws

pub returns-clause-sums : goal.returns-clause-sums
returns-clause-sums c = sum_laws

pub returns-clause-shifts : goal.returns-clause-shifts
returns-clause-shifts c = shift_laws

pub returns-clause-products : goal.returns-clause-products
returns-clause-products c = product_laws
