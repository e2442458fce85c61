-- The laws of Turning, from those of the rule below.
use Rattle.std.specs.Prelude.{All, ◌≡◌, ℕ, ◌<◌, ◌≤◌, true, ◌⊎◌, List, map, length as size, slice_index_or, refl}
use Rattle.std.proofs.Common.{sym, ap, subst, ◌∙◌, arith}
use Rattle.std.proofs.lemmas.List.{length-map, get_or-map}
use Rattle.std.proofs.lemmas.List.Elements.{All-map, All-weaker, All-get_or}
use Rattle.layout.specs.declared.panel.Panel.{Panel}
use Rattle.layout.specs.declared.row.Row.{Row}
use Rattle.layout.specs.declared.rect.Rect.{Rect}
use Rattle.layout.specs.Pieces.{blank}
use Rattle.layout.specs.Apart.{swapped, all_swapped, plate}
use Rattle.layout.specs.Places.{place_of, pieces}
use Rattle.layout.specs.Tasks.{Model, Form, Shape, shape, panels, worth}
use Rattle.layout.specs.Variants.{exchanged_panel, form_with_panel, exchanged_model, exchanged_shape}
use Rattle.layout.proofs.Carrying.{exact_fair}
use Rattle.layout.proofs.Laws.{exchange, same_places}
use Rattle.layout.proofs.Variants.{shape_exchanged, exchanged_within_limits, exchanged_within_reach}
use Rattle.rules.specs.Rules.{Placed, Numbered, RowsApart, Proper, Asked, RuleLaws}
use Rattle.rules.specs.Layers.{exchanged_row, TurningPatterns, turning_named}
use Rattle.rules.specs.Rowwise.{form_varied, panel_varied, place_exchanged, value_varied, worth_alike, worth_mapped}
use Rattle.rules.specs.Layered.{Layer, layer_laws}

known_below : (s : Shape) (r : Row) → Placed (exchanged_shape s) r → r.kind < size s.forms
known_below s r p = omega (arith, p.known, length-map s.forms (form_with_panel exchanged_panel))

placed : (s : Shape) (r : Row) → Placed (exchanged_shape s) r → Placed s (exchanged_row r)
placed s r p =
    let known = known_below s r p in
    let place = place_exchanged s r known in
    record {
      known = known;
      wanted = sym (ap (λ (f : Form). f.wanted) (form_varied exchanged_panel s.forms r.kind known)) ∙ p.wanted;
      turn = subst (λ (q : Panel). (r.turned ≡ 0) ⊎ ((r.turned ≡ 1) × (q.may_turn ≡ true))) (panel_varied exchanged_panel s.forms r.kind known) p.turn;
      inside_along = omega (arith, ap (λ (q : Rect). q.along.to) place, p.inside_across);
      inside_across = omega (arith, ap (λ (q : Rect). q.across.to) place, p.inside_along);
      unspared = p.unspared;
    }

apart : (stages saw : ℕ) (s : Shape) (rows : List Row) → All (Placed (exchanged_shape s)) rows → RowsApart saw stages (exchanged_shape s) rows → RowsApart saw stages s (map exchanged_row rows)
apart stages saw s rows each below =
    same_places exact_fair saw stages (plate s.length s.width) (all_swapped (pieces (panels (exchanged_shape s)) rows)) (pieces (panels s) (map exchanged_row rows)) (length-map rows exchanged_row) same
    (exchange saw stages (plate s.width s.length) (pieces (panels (exchanged_shape s)) rows) below)
  where
    same : (i : ℕ) → i < size (map exchanged_row rows) → place_of (panels s) (slice_index_or (map exchanged_row rows) i blank) ≡ swapped (place_of (panels (exchanged_shape s)) (slice_index_or rows i blank))
    same i lt =
        let inside : i < size rows = omega (arith, length-map rows exchanged_row) in
        ap (place_of (panels s)) (get_or-map exchanged_row rows i blank blank inside)
        ∙ place_exchanged s (slice_index_or rows i blank) (known_below s (slice_index_or rows i blank) (All-get_or (Placed (exchanged_shape s)) rows i blank inside each))

proper : (stages saw : ℕ) (s : Shape) (rows : List Row) → Proper stages saw (exchanged_shape s) rows → Proper stages saw s (map exchanged_row rows)
proper stages saw s rows p = record {
  few = omega (arith, length-map rows exchanged_row, p.few);
  placed = All-map (Placed s) exchanged_row rows (All-weaker (Placed (exchanged_shape s)) (λ (r : Row). Placed s (exchanged_row r)) (placed s) rows p.placed);
  numbered = All-map Numbered exchanged_row rows p.numbered;
  apart = apart stages saw s rows p.placed p.apart;
}

-- the worth of the pattern handed up is that of the one below
pub worth_exchanged : (m : Model) (rows : List Row) → worth m (map exchanged_row rows) ≡ worth (exchanged_model m) rows
worth_exchanged m rows =
    worth_mapped m exchanged_row (λ r. refl) rows ∙ worth_alike m (exchanged_model m) (λ r. sym (value_varied exchanged_panel m.kinds r.kind)) rows

-- the task below is one that the rule there answers for
pub asked_exchanged : {reach : ℕ} (m : Model) → Asked reach m → Asked reach (exchanged_model m)
asked_exchanged m a = record { limits = exchanged_within_limits m a.limits; within = exchanged_within_reach m a.within }

turning_layer : (reach stages saw : ℕ) → reach ≤ 3200 → 1 ≤ stages → Layer exchanged_model exchanged_shape (map exchanged_row) reach stages saw reach stages saw
turning_layer reach stages saw far staged = record {
  asks = asked_exchanged;
  shapes = shape_exchanged;
  nothing = refl;
  worth_is = worth_exchanged;
  keeps = λ m a rows p. proper stages saw (shape m) rows p;
  far = far;
  staged = staged;
}

pub turning_laws : {patterns : Shape → List Row → Type 0} {named : Model → List Row} {reach stages saw : ℕ} → RuleLaws patterns named reach stages saw → RuleLaws (TurningPatterns patterns) (turning_named named) reach stages saw
turning_laws {reach = reach} {stages = stages} {saw = saw} below = layer_laws (turning_layer reach stages saw below.far below.staged) below
