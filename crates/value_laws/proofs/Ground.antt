-- What the laws of a step stand on: the laws of integers, terms, tables, the machine and the forest.
use Rattle.number_laws.specs.LowBitLaws.{CutLaws, SextLaws}
use Rattle.number_laws.specs.Laws.{ComparisonLaws, IntegerLaws, SumLaws, ShiftLaws, ProductLaws}
use Rattle.sym_terms.specs.Value.{Valuation, IsInRange}
use Rattle.term_laws.specs.Laws.{NormalLaws, OrderLaws, ValueLaws, MentionLaw}
use Rattle.table_laws.specs.Laws.{TableLaws, TargetLaws}
use Rattle.x86_machine.specs.StepLaws.{StateLaw, RangeLaws, StoreLaws, PlaceLaw, ReturnLaw}
use Rattle.forest_laws.specs.Laws.{StoreLaw, LoadLaw, AliasLaw, ForgetLaw, FindLaw, ClearLaw}

-- the laws of the forest's rules
pub record ForestLaws : Type 0 where
  pub store : StoreLaw
  pub load : LoadLaw
  pub alias : AliasLaw
  pub forget : ForgetLaw
  pub find : FindLaw
  pub clear : ClearLaw

-- the laws of the crates below, by their subjects
pub record Ground : Type 0 where
  -- integers
  pub cut : CutLaws
  pub sext : SextLaws
  pub compared : ComparisonLaws
  pub integers : IntegerLaws
  pub sums : SumLaws
  pub shifts : ShiftLaws
  pub products : ProductLaws
  -- terms
  pub order : OrderLaws
  pub normal : NormalLaws
  pub values : (u : Valuation) → IsInRange u → ValueLaws u
  pub mentioned : MentionLaw
  -- tables
  pub tables : TableLaws
  pub jumps : TargetLaws
  -- the machine
  pub states : StateLaw
  pub ranges : RangeLaws
  pub stores : StoreLaws
  pub places : PlaceLaw
  pub returns : ReturnLaw
  -- the forest
  pub forest : ForestLaws
