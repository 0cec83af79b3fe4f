-- The refusal of a graph's text, by the limit and by the reader.
use Rattle.std.proofs.Common.{◌≡◌, ℕ, ◌<◌, ◌≤◌, Bool, true, false, cond, List, length, refl, sym, ◌∙◌, ap, Some, Result, Ok, Err, arith}
use Rattle.std.proofs.lemmas.Bool.{lt-ltb, le-ltb}
use Rattle.std.specs.Prelude.{nat_lt}
use Rattle.term_text.specs.declared.cause.TextCause.{TextCause}
use Rattle.term_text.specs.declared.cause.TextCause.TheVariants.{BadHead, BadLine, BadTerm, NotCanonical, OutOfOrder, OverLimit, Unended, NoMemory}
use Rattle.graph_data.specs.declared.graph.Graph.{Graph}
use Rattle.graph_data.specs.WellFormed.{IsWellFormed}
use Rattle.graph_text.specs.declared.refusal.TextRefusal.{TextRefusal}
use Rattle.graph_text.specs.Text.{graph_text}
use Rattle.graph_text.specs.Reading.{graph_at, GivesGraph, Refuses}
use Rattle.foxdec_commands.specs.declared.graph_fault.GraphFault.{GraphFault}
use Rattle.foxdec_commands.specs.declared.graph_fault.GraphFault.TheVariants.{TooLong, Line}
use Rattle.foxdec_commands.specs.FileRefusal.{limit}
use Rattle.foxdec_commands.specs.GraphFault.{fault_of, graph_refusal}
use Rattle.foxdec_commands.specs.Ending.{graph_refused}
use Rattle.foxdec_commands.specs.Outcome.{IsGraphText, IsRefusedGraph}
use Rattle.foxdec_commands.specs.FileResult.{IsOnlyOf, IsOnlyRefused}

-- over the limit a text is refused for that
over_limit : (bytes : List ℕ) → limit < length bytes → graph_refusal bytes ≡ Some TooLong
unfolding graph_refusal
over_limit bytes over =
    let test : nat_lt limit (length bytes) ≡ true = lt-ltb limit (length bytes) over in
    ap (λ (b : Bool). cond b (Some TooLong) (fault_of (graph_at bytes))) test

-- within it the reader's refusal is the text's
within_limit : (bytes : List ℕ) → length bytes ≤ limit → graph_refusal bytes ≡ fault_of (graph_at bytes)
unfolding graph_refusal
within_limit bytes within =
    let test : nat_lt limit (length bytes) ≡ false = le-ltb limit (length bytes) within in
    ap (λ (b : Bool). cond b (Some TooLong) (fault_of (graph_at bytes))) test

-- one refusal applies to a text that is no graph's
alone : (graph bytes : List ℕ) (fault : GraphFault) → graph_refusal bytes ≡ Some fault → ((g : Graph) → IsGraphText bytes g → ⊥)
    → IsOnlyRefused IsGraphText (IsRefusedGraph graph) bytes (graph_refused graph fault)
alone graph bytes fault applies no_text = record {
  refused = record { fault = fault; applies = applies; says = refl };
  only = λ e other. let same : fault ≡ other.fault = cc (applies, other.applies) in ap (graph_refused graph) same ∙ sym other.says;
  no_value = no_text;
}

-- a text over the limit is refused
pub text_too_long : (graph bytes : List ℕ) → limit < length bytes → IsOnlyRefused IsGraphText (IsRefusedGraph graph) bytes (graph_refused graph TooLong)
text_too_long graph bytes over = alone graph bytes TooLong (over_limit bytes over) (λ g form. omega (arith, over, form.within))

-- a refusal that isn't want of memory is the reading's
refuses_at : {Y : Type 0} (c : TextCause) (e : TextRefusal) (read : Result Y TextRefusal) → (c ≡ NoMemory → ⊥) → Refuses c e read → read ≡ Err e
refuses_at BadHead e read other refuses = refuses
refuses_at BadLine e read other refuses = refuses
refuses_at BadTerm e read other refuses = refuses
refuses_at NotCanonical e read other refuses = refuses
refuses_at OutOfOrder e read other refuses = refuses
refuses_at OverLimit e read other refuses = refuses
refuses_at Unended e read other refuses = refuses
refuses_at NoMemory e read other refuses = absurd (other refl)

module _ (graph bytes : List ℕ) (within : length bytes ≤ limit) where
  -- what the reader gives is the only graph of the text
  pub read_graph : (g : Graph) → IsWellFormed g × (bytes ≡ graph_text g) → ((h : Graph) → IsWellFormed h → bytes ≡ graph_text h → GivesGraph {Y = Graph} (Ok g) (Ok h)) → graph_at bytes ≡ Ok g
      → IsOnlyOf IsGraphText (IsRefusedGraph graph) bytes g
  read_graph g found only exact = record {
    form = record { within = within; formed = found.0; spelled = found.1 };
    only = λ h form. cc (only h form.formed form.spelled);
    kept = λ e refused. cc (refused.applies, within_limit bytes within, ap fault_of exact);
  }

  -- and what it refuses is refused for that
  pub read_refused : (e : TextRefusal) → (e.cause ≡ NoMemory → ⊥) → ((h : Graph) → IsWellFormed h → bytes ≡ graph_text h → Refuses {Y = Graph} e.cause e (Ok h)) → Refuses e.cause e (graph_at bytes)
      → IsOnlyRefused IsGraphText (IsRefusedGraph graph) bytes (graph_refused graph (Line e))
  read_refused e other only exact =
      alone graph bytes (Line e) (within_limit bytes within ∙ ap fault_of (refuses_at e.cause e (graph_at bytes) other exact))
      (λ h form. absurd (cc (refuses_at e.cause e (Ok h) other (only h form.formed form.spelled))))
