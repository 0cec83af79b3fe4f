-- What follows of status 5: the text of the graph is refused.
use Rattle.std.proofs.Common.{◌≡◌, ◌⊎◌, inl, inr, ℕ, List, refl, sym, ◌∙◌, ap, subst, Some, None, arith}
use Rattle.std.specs.declared.option.Option.{Option}
use Rattle.elf_image.specs.declared.image.Image.{Image}
use Rattle.graph_data.specs.declared.graph.Graph.{Graph}
use Rattle.elf_image.specs.Loaded.{image_of}
use Rattle.foxdec_commands.specs.FileRefusal.{executable_refusal}
use Rattle.foxdec_commands.specs.declared.graph_fault.GraphFault.{GraphFault}
use Rattle.foxdec_commands.specs.GraphFault.{graph_refusal}
use Rattle.foxdec_commands.specs.Words.{Asked, check, show, report, lift, TakesBoth}
use Rattle.foxdec_commands.specs.Ending.{Ending, graph_refused, status_of, text_of}
use Rattle.foxdec_commands.specs.Outcome.{HasImage, IsGraphText, IsRefusedGraph, Tells, Allows, Takes, GivesVerdict, GivesReport, BothComeTo, ComesTo, Decides}
use Rattle.foxdec_commands.specs.Outside.{Files, Stream, Says}
use Rattle.foxdec_commands.specs.Guarantee.{Gives, Ends, IsExcused, GivesDue, SaysFaulted}
use Rattle.foxdec_commands.proofs.GuaranteeLemmas.{answers, decides}
use Rattle.foxdec_commands.proofs.CheckLemmas.{judged-not_4_5}

-- an ending with status 5 is a refusal of the graph's text
module _ (files : Files) (err : Stream) (e : Ending) (five : status_of e ≡ 5) (text : Says err (text_of e)) where
  text_faulted : (asked : Asked) (file graph : List ℕ) → TakesBoth asked file graph → (Give : Graph → Type 0) → ((g : Graph) → Give g → ⊥) → Allows (files.known file) HasImage
      → Allows (files.known graph) (Takes IsGraphText (λ bytes. IsRefusedGraph graph bytes e) Give) → SaysFaulted files err asked
  text_faulted asked file graph takes Give none executable (bytes, all, inl refused) = record {
    file = file;
    graph = graph;
    takes = takes;
    fault = refused.fault;
    executable = executable;
    applies = (bytes, all, refused.applies);
    text = subst (λ (d : Ending). Says err (text_of d)) refused.says text;
  }
  text_faulted asked file graph takes Give none executable (bytes, all, inr taken) = absurd (none taken.0 taken.2)

  both_faulted : (asked : Asked) (file graph : List ℕ) → TakesBoth asked file graph → (Give : Image → Graph → Ending → Type 0) → ((image : Image) (g : Graph) → Give image g e → ⊥) → BothComeTo Allows files.known file graph Give e → SaysFaulted files err asked
  both_faulted asked file graph takes Give none (bytes, all, inl refused) = absurd (omega (arith, five, ap status_of refused.says))
  both_faulted asked file graph takes Give none (bytes, all, inr taken) = text_faulted asked file graph takes (λ g. Give taken.0 g e) (none taken.0) (bytes, all, (taken.0, taken.1)) taken.2

  says_faulted : (asked : Asked) → ComesTo Allows files.known asked e → SaysFaulted files err asked
  says_faulted (check file graph) came =
      both_faulted (check file graph) file graph (inl refl) GivesVerdict (λ image g is. judged-not_4_5 is.verdict (inr (sym (ap status_of is.says) ∙ five))) came
  says_faulted (report file graph) came =
      both_faulted (report file graph) file graph (inr refl) GivesReport (λ image g is. omega (arith, five, ap status_of is.says)) came
  says_faulted (show file address count) (bytes, all, inl refused) = absurd (omega (arith, five, ap status_of refused.says))
  says_faulted (show file address count) (bytes, all, inr taken) = absurd (omega (arith, five, ap status_of taken.2.says))
  says_faulted (lift file roots externs) (bytes, all, inl refused) = absurd (omega (arith, five, ap status_of refused.says))
  says_faulted (lift file roots externs) (bytes, all, inr taken) = absurd (omega (arith, five, ap status_of taken.2.says))

module _ (files : Files) (out err : Stream) (asked : Asked) (status : ℕ) (ends : Ends files out err (Some asked) status) where
  faulted_of : status ≡ 5 → GivesDue files out err asked status → SaysFaulted files err asked
  faulted_of five given = says_faulted files err given.ending (sym given.gives.status_is ∙ five) given.gives.text asked given.due.allowed

  -- 5 only where the graph's text is refused, as the text says
  pub only_faulted : status ≡ 5 → SaysFaulted files err asked
  only_faulted five = faulted_of five (answers files out err status asked (inr (inr (inr five))) ends)

-- the refusal of a known text decides the ending
fault_told : (known : List ℕ → Option (List ℕ)) (asked : Asked) (file graph : List ℕ) → TakesBoth asked file graph → (bytes text : List ℕ) (fault : GraphFault) → known file ≡ Some bytes → known graph ≡ Some text → executable_refusal bytes ≡ None → graph_refusal text ≡ Some fault → Decides known asked (graph_refused graph fault)
fault_told known asked file graph takes bytes text fault file_is graph_is accepted applies = by takes
  where
    both : (Give : Image → Graph → Ending → Type 0) → BothComeTo Tells known file graph Give (graph_refused graph fault)
    both Give = (bytes, file_is, inr (image_of bytes, record { accepted = accepted; loaded = refl }, (text, graph_is, inl (record { fault = fault; applies = applies; says = refl }))))

    by : TakesBoth asked file graph → Decides known asked (graph_refused graph fault)
    by (inl checks) = subst (λ (a : Asked). Decides known a (graph_refused graph fault)) (sym checks) (both GivesVerdict)
    by (inr reports) = subst (λ (a : Asked). Decides known a (graph_refused graph fault)) (sym reports) (both GivesReport)

module _ (files : Files) (out err : Stream) (asked : Asked) (status : ℕ) (ends : Ends files out err (Some asked) status) where
  given_faulted : (graph : List ℕ) (fault : GraphFault) → Gives out err status (graph_refused graph fault) ⊎ IsExcused files out asked status
      → ((status ≡ 5) × Says err (text_of (graph_refused graph fault))) ⊎ IsExcused files out asked status
  given_faulted graph fault (inl gives) = inl (gives.status_is, gives.text)
  given_faulted graph fault (inr excused) = inr excused

  -- everywhere it is refused, 5 and the text
  pub all_faulted : (file graph : List ℕ) → TakesBoth asked file graph → (bytes text : List ℕ) (fault : GraphFault) → files.known file ≡ Some bytes → files.known graph ≡ Some text → executable_refusal bytes ≡ None → graph_refusal text ≡ Some fault
      → ((status ≡ 5) × Says err (text_of (graph_refused graph fault))) ⊎ IsExcused files out asked status
  all_faulted file graph takes bytes text fault file_is graph_is accepted applies =
      given_faulted graph fault (decides files out err status asked (graph_refused graph fault) (fault_told files.known asked file graph takes bytes text fault file_is graph_is accepted applies) ends)
