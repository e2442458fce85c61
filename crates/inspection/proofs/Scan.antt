-- The steps of the loop that makes a group.
use Rattle.std.proofs.Common.{ℕ, ◌+◌, ◌^◌, ◌<◌, ◌≤◌, ◌⊎◌, List, sym, subst, inl, inr, arith}
use native.Mathlib.Decide.{dec_le}
use Rattle.layout.specs.declared.rect.Span.{Span}
use Rattle.layout.specs.declared.rect.Rect.{Rect}
use Rattle.layout.specs.Apart.{Pieces, Sized, Within, Holds}
use Rattle.inspection.specs.declared.places.Direction.{Direction}
use Rattle.inspection.specs.declared.places.Direction.TheVariants.{Length, Width}
use Rattle.inspection.specs.Directions.{placed, RoomForCuts}
use Rattle.inspection.specs.Groups.{Growing, Longer, NoneLonger, Lowest, Group}
use Rattle.inspection.proofs.Decide.{piece_solid, solid_grows}

-- what holds of all pieces holds of them seen in either direction
pub sized_seen : (d : Direction) (places : List Rect) → Sized (placed Length places) → Sized (placed d places)
sized_seen Length places z = z
sized_seen Width places z = λ i lt. ((z i lt).1, (z i lt).0)

room_seen : (d : Direction) (g : ℕ) (places : List Rect) → RoomForCuts g (placed Length places) → RoomForCuts g (placed d places)
room_seen Length g places room = room
room_seen Width g places room = λ i lt. ((room i lt).1, (room i lt).0)

pub longer_room : (d : Direction) (g : ℕ) (places : List Rect) (R : Rect) (u : Span) (t : ℕ) → RoomForCuts g (placed Length places) → Longer (placed d places) R g u t → t + g < 2 ^ 32
longer_room d g places R u t room (i, (held, before, beyond), ends) = subst (λ (t : ℕ). t + g < 2 ^ 32) ends (room_seen d g places room i held.0).0

-- the group begins with its lowest piece
pub group_starts : (g : ℕ) (ps : Pieces) (R : Rect) (u : Span) → Sized ps → Lowest ps R u → Growing g ps R u
group_starts g ps R u z l = subst (Growing g ps R) l.extent (record {
  within = l.held.1.0;
  some = (z l.which l.held.0).0;
  low = λ k h. subst (λ (v : Span). v.from ≤ (ps.place k).along.from) (sym l.extent) (l.low k h);
  solid = piece_solid g ps R l.which l.held;
})

-- a group grows by a piece that no cut right after it leaves aside
pub group_grows : (g : ℕ) (ps : Pieces) (R : Rect) (u : Span) (t : ℕ) → Growing g ps R u → Longer ps R g u t → Growing g ps R (record { from = u.from; to = t })
group_grows g ps R u t w (i, (held, before, beyond), ends) = subst (λ (t : ℕ). Growing g ps R (record { from = u.from; to = t })) ends (record {
  within = (w.within.0, held.1.0.1);
  some = omega arith;
  low = w.low;
  solid = solid_grows g ps R u i w.solid (omega arith) (w.low i held) before held;
})

-- and where it grows no more it is the first group of the part
pub group_ends : (g : ℕ) (ps : Pieces) (R : Rect) (u : Span) → Growing g ps R u → NoneLonger ps R g u → Group g ps R u
group_ends g ps R u w none = record { within = w.within; some = w.some; first = λ i h. go i h (dec_le (u.to + g) (ps.place i).along.from) (dec_le (ps.place i).along.to u.to); solid = w.solid }
  where
    go : (i : ℕ) → Holds ps R i → Dec (u.to + g ≤ (ps.place i).along.from) → Dec ((ps.place i).along.to ≤ u.to) → Within (ps.place i).along u ⊎ (u.to + g ≤ (ps.place i).along.from)
    go i h (yes le) _ = inr le
    go i h (no _) (yes le) = inl (w.low i h, le)
    go i h (no gt) (no far) = absurd (none i (h, omega arith, omega arith))
