use Rattle.std.proofs.Common.{◌≡◌, ◌++◌, take, subst, sym, rules}
use Rattle.wire_io.specs.Shelf.{IsFront, IsAll}
use Rattle.wire_io.proofs.ShelfLemmas.{front_grows, all_at_end}
use Rattle.wire_io.proofs.reading.read_piece.Goals as goal

pub returns-in_ok-extend_from_slice-in-Ok-clause-front : goal.returns-in_ok-extend_from_slice-in-Ok-clause-front
returns-in_ok-extend_from_slice-in-Ok-clause-front g c front =
    let all : c.extend_from_slice.new.self.items ≡ c.args.whole.now.items ++ take c.in-Ok.count c.read_at.new.into = search rules in
    subst (λ l. IsFront l (g.S.Shelf.file c.args.shelf.now c.args.name.now)) (sym all)
    (front_grows _ c.args.whole.now.items c.args.piece.now c.read_at.new.into c.len.result c.in-Ok.count (search rules) front c.in-Ok.ensures.piece (search rules))

pub returns-in_ok-extend_from_slice-in-Ok-clause-end : goal.returns-in_ok-extend_from_slice-in-Ok-clause-end
returns-in_ok-extend_from_slice-in-Ok-clause-end g c is front =
    let all : c.extend_from_slice.new.self.items ≡ c.args.whole.now.items ++ take c.in-Ok.count c.read_at.new.into = search rules in
    subst (λ l. IsAll l (g.S.Shelf.file c.args.shelf.now c.args.name.now)) (sym all)
    (all_at_end _ c.args.whole.now.items c.args.piece.now c.read_at.new.into c.len.result c.in-Ok.count (search rules) front c.in-Ok.ensures.piece (search rules) (cc is) c.requires)
