use Rattle.std.proofs.Common.{◌≡◌, ◌++◌, vec_items, rules}
use Rattle.text.proofs.Many.{ahead_more, shorter}
use Rattle.text.proofs.lines.read_lines.Goals as goal

pub loop-rest-smaller : goal.loop-rest-smaller
loop-rest-smaller g c =
    let read : g.E.Entry.Short c.in_ok-entry.entry × (c.loop-rest.rest.now ≡ g.E.Entry.line c.in_ok-entry.entry ++ c.in_ok-entry.after.now) = search rules in
    shorter g.E.Entry.line g.met.E.Entry.some c.in_ok-entry.entry c.loop-rest.rest.now c.in_ok-entry.after.now read.1

pub loop-rest-preserved : goal.loop-rest-preserved
loop-rest-preserved g c =
    let read : g.E.Entry.Short c.in_ok-entry.entry × (c.loop-rest.rest.now ≡ g.E.Entry.line c.in_ok-entry.entry ++ c.in_ok-entry.after.now) = search rules in
    rw c.in_ok-push.ensures.items
    (ahead_more g.E.Entry.line g.E.Entry.Short c.args.text.now c.loop-rest.rest.now c.in_ok-entry.after.now (vec_items c.loop-rest.entries) c.in_ok-entry.entry c.loop-rest.invariant read)
