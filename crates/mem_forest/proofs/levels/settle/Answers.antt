use Rattle.std.proofs.Common.{◌≡◌, ◌+◌, length-drop, drop, ap, ◌∙◌, slice_index_or, ℕ, List, [], None, refl, arith}
use Rattle.std.specs.Prelude.{if◌then◌else◌, is_ok}
use Rattle.std.specs.List.{position_or_len, insert as insert_item, remove}
use Rattle.mem_forest.specs.Plain.{PlainNode, none}
use Rattle.mem_forest.specs.Shape.{comes_before}
use Rattle.mem_forest.proofs.PlaceLemmas.{position_or_len-le}
use Rattle.mem_forest.proofs.SettleLemmas.{settled_moved, settled_still, get_or-any}
use Rattle.mem_forest.proofs.levels.settle.Goals as goal

-- how many of the nodes after a node come before it, over the list
abbrev place : PlainNode → List PlainNode → ℕ → ℕ
place x xs i = position_or_len (λ m. comes_before x.names x.bytes m.names m.bytes) (drop (i + 1) xs)

-- a node, where any stands for one that is not there
abbrev any : PlainNode
any = record { names = []; bytes = 0; value = None; under = none }

pub overflow_add-at : goal.overflow_add-at
overflow_add-at c =
    let xs = c.args.nodes.now.items in
    let x = slice_index_or xs c.args.at any in
    let is_place : c.places_behind-behind.result ≡ place x xs c.args.at = c.places_behind-behind.ensures any ∙ ap (λ ns. place (slice_index_or ns c.args.at any) ns c.args.at) c.as_slice.ensures.value in
    omega (arith, is_place, position_or_len-le (λ m. comes_before x.names x.bytes m.names m.bytes) (drop (c.args.at + 1) xs), length-drop (c.args.at + 1) xs, c.args.nodes.now.ok.0)

pub insert-requires : goal.insert-requires
insert-requires c =
    let xs = c.args.nodes.now.items in
    let x = slice_index_or xs c.args.at c.remove-node.result in
    let is_place : c.places_behind-behind.result ≡ place x xs c.args.at =
    c.places_behind-behind.ensures c.remove-node.result ∙ ap (λ ns. place (slice_index_or ns c.args.at c.remove-node.result) ns c.args.at) c.as_slice.ensures.value in
    omega (arith, is_place, position_or_len-le (λ m. comes_before x.names x.bytes m.names m.bytes) (drop (c.args.at + 1) xs), length-drop (c.args.at + 1) xs, c.args.nodes.now.ok.0, c.remove-node.ensures.len)

pub returns-then-behind-gt0-clause-placed : goal.returns-then-behind-gt0-clause-placed
returns-then-behind-gt0-clause-placed c = λ d.
    let xs = c.args.nodes.now.items in
    let i = c.args.at in
    let is_place : c.places_behind-behind.result ≡ place (slice_index_or xs i d) xs i =
    c.places_behind-behind.ensures d ∙ ap (λ ns. place (slice_index_or ns i d) ns i) c.as_slice.ensures.value in
    let made : c.insert.new.self.items ≡ insert_item (remove xs i) (i + c.places_behind-behind.result) c.remove-node.result =
    c.insert.ensures.items
    ∙ ap (λ r. if is_ok r then insert_item c.remove-node.new.self.items (i + c.places_behind-behind.result) c.remove-node.result else c.remove-node.new.self.items) c.unwrap.ensures
    ∙ ap (λ ns. insert_item ns (i + c.places_behind-behind.result) c.remove-node.result) c.remove-node.ensures.items in
    settled_moved xs c.insert.new.self.items i c.places_behind-behind.result (slice_index_or xs i d) c.remove-node.result (omega (arith, c.requires, c.args.nodes.now.ok.0))
    (c.remove-node.ensures.value ∙ get_or-any xs i c.remove-node.result d (omega (arith, c.requires, c.args.nodes.now.ok.0))) is_place made

pub returns-else-behind-gt0-clause-placed : goal.returns-else-behind-gt0-clause-placed
returns-else-behind-gt0-clause-placed c = λ d.
    let xs = c.args.nodes.now.items in
    let i = c.args.at in
    let is_place : c.places_behind-behind.result ≡ place (slice_index_or xs i d) xs i =
    c.places_behind-behind.ensures d ∙ ap (λ ns. place (slice_index_or ns i d) ns i) c.as_slice.ensures.value in
    settled_still xs i d (slice_index_or xs i d) (omega (arith, c.requires, c.args.nodes.now.ok.0)) refl (omega (arith, is_place, c.if-behind-gt0.false))
