use Rattle.std.proofs.Common.{◌≡◌, ◌+◌, ◌-◌, length, take, drop, sym, ap, ◌∙◌, arith}
use Rattle.std.proofs.lemmas.List.{at_drop_more, length-take-le, length-drop}
use Rattle.patterns.specs.Numbers.{no_piece}
use Rattle.patterns.specs.Strips.{rows_of_strip}
use Rattle.engines.specs.declared.segment.Corner.{Corner}
use Rattle.engines.specs.Fillings.{strip_of}
use Rattle.engines.specs.Writing.{sum_along, sum_across, strip_rows}
use Rattle.engines.proofs.Chosen.{pieces_along}
use Rattle.engines.proofs.Rows.{next, next_rows, strip_length, strip_more}
use Rattle.engines.proofs.laying.lay_strips.Goals as goal

pub lay_pieces-requires-clause-along : goal.lay_pieces-requires-clause-along
lay_pieces-requires-clause-along g c =
    let l = c.args.numbers.now in
    let q = next g.F.Filling.filled l.length l.list.items c.args.chosen.now c.loop-q.q-index c.loop-q-test.true c.loop-q.corner in
    omega (arith, ap sum_along (c.deref.ensures.0 ∙ c.pieces-pieces.ensures), pieces_along l.length l.width l.list.items l.stock g.F.Filling.filled q, c.requires.along, c.loop-q.invariant.along)

pub lay_pieces-requires-clause-room : goal.lay_pieces-requires-clause-room
lay_pieces-requires-clause-room g c =
    let l = c.args.numbers.now in
    let rows = c.loop-q.rows in
    let end = c.loop-q.end in
    let longer = strip_length g.F.Filling.filled l.length l.list.items c.args.chosen.now c.loop-q.q-index c.loop-q-test.true c.loop-q.corner in
    let many = ap length (c.deref.ensures.0 ∙ c.pieces-pieces.ensures) in
    omega (arith, many, longer, c.loop-q.invariant.room, c.requires.room, c.loop-q.auto.rows, length-take-le (length rows - end) (drop end rows) (omega (arith, length-drop end rows)), length-drop end rows)

pub loop-q-preserved : goal.loop-q-preserved
loop-q-preserved g c =
    let f = g.F.Filling.filled in
    let l = c.args.numbers.now.length in
    let os = c.args.numbers.now.list.items in
    let chosen = c.args.chosen.now in
    let i = c.loop-q.q-index in
    let known = c.loop-q-test.true in
    let k = c.loop-q.corner in
    let q = next f l os chosen i known k in
    let pieces = (strip_of f l os q).pieces in
    let many : c.len-end.result ≡ length pieces = c.len-end.ensures.value ∙ ap length c.pieces-pieces.ensures in
    let slice = c.deref.ensures.0 ∙ c.pieces-pieces.ensures in
    let written : take c.len-end.result c.lay_pieces.new.rows ≡ next_rows f l os chosen i known k =
    ap (λ n. take n c.lay_pieces.new.rows) (many ∙ sym (ap length slice)) ∙ c.lay_pieces.ensures.front ∙ ap (rows_of_strip k.segment k.strip k.y k.x) slice in
    let rest = at_drop_more sum_across chosen i no_piece known in
    let above = c.above-corner.ensures in
    let longer = strip_length f l os chosen i known k in
    let left = ap (λ (z : Corner). length (strip_rows f z l os (drop (i + 1) chosen))) above in
    record {
      strips = omega (arith, c.loop-q.invariant.strips, ap (λ (z : Corner). z.strip) above);
      along = ap (λ (z : Corner). z.x) above ∙ c.loop-q.invariant.along;
      across = omega (arith, c.loop-q.invariant.across, rest, ap (λ (z : Corner). z.y) above);
      room = omega (arith, c.loop-q.invariant.room, many, longer, left);
      whole = rw above (strip_more f l os chosen i known k c.loop-q.end c.len-end.result c.loop-q.rows c.lay_pieces.new.rows _ _ (omega (arith, c.loop-q.invariant.room, c.requires.room, c.loop-q.auto.rows)) (omega (arith, many)) written c.loop-q.invariant.whole);
    }
