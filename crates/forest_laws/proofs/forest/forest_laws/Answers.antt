use Rattle.memory_regions.specs.Relate.{relate}
use Rattle.forest_laws.specs.Laws.{Lies}
use Rattle.forest_laws.proofs.AddressLemmas.{some_bytes}
use Rattle.forest_laws.proofs.DifferenceLemmas.{difference}
use Rattle.forest_laws.proofs.RelateLemmas.{relate_tells}
use Rattle.forest_laws.proofs.StoreLemmas.{store_each, store_holds, load_each, load_holds}
use Rattle.forest_laws.proofs.NameLemmas.{alias_each, alias_holds, forget_each, forget_holds}
use Rattle.forest_laws.proofs.ValueLemmas.{value_number, clear_each, clear_holds}
use Rattle.forest_laws.proofs.forest.forest_laws.Goals as goal

pub returns-clause-difference : goal.returns-clause-difference
returns-clause-difference c = difference

pub returns-clause-relate : goal.returns-clause-relate
returns-clause-relate c = relate_tells

pub returns-clause-store : goal.returns-clause-store
returns-clause-store c =
    λ u k h m m' at a v s d n f g. store_holds m m' u at a v s d n (relate k at a) (λ t b i. relate_tells u k h at a t b (some_bytes a s) i) f g

pub returns-clause-load : goal.returns-clause-load
returns-clause-load c =
    λ u k h m at a name s n f g. load_holds m u at a s (relate k at a) (λ t b i. relate_tells u k h at a t b (some_bytes a s) i) name n f g

pub returns-clause-alias : goal.returns-clause-alias
returns-clause-alias c = λ u m t a at b e f h. alias_holds m u t a at b e f h

pub returns-clause-forget : goal.returns-clause-forget
returns-clause-forget c = λ s u u' d m f h. forget_holds s u u' d m f h

pub returns-clause-find : goal.returns-clause-find
returns-clause-find c = value_number

pub returns-clause-clear : goal.returns-clause-clear
returns-clause-clear c = clear_holds

pub returns-clause-levels : goal.returns-clause-levels
returns-clause-levels c = record {
  store = λ u p y b rel at a v f q e. store_each u (λ z d. Lies p y b z d) rel at a v f q e;
  load = λ u p y b rel at a name f q e. load_each u (λ z d. Lies p y b z d) rel at a name f q e;
  alias = λ u p y b m t a at d same f h e. alias_each m u (λ z d. Lies p y b z d) t a at d same f h e;
  forget = λ s u u' d p y b m f h e. forget_each s u u' d m (λ z d. Lies p y b z d) f h e;
  clear = λ u p y b rs f e. clear_each u rs (λ z d. Lies p y b z d) f e;
}
