-- The laws of a saw layer, from those of the rule below.
use Rattle.std.specs.Prelude.{All, ◌≡◌, ℕ, ◌+◌, ◌-◌, ◌<◌, ◌≤◌, true, ◌⊎◌, List, length as size, get_or, slice_index_or, refl}
use Rattle.std.proofs.Common.{sym, ap, subst, ◌∙◌, arith}
use Rattle.std.proofs.lemmas.List.{length-map}
use Rattle.std.proofs.lemmas.List.Elements.{All-weaker, All-get_or}
use Rattle.layout.specs.declared.panel.Panel.{Panel}
use Rattle.layout.specs.declared.row.Row.{Row}
use Rattle.layout.specs.Pieces.{blank, along, across, panel_of}
use Rattle.layout.specs.Apart.{plate}
use Rattle.layout.specs.Changes.{enlarged}
use Rattle.layout.specs.Places.{place_of, pieces}
use Rattle.layout.specs.Tasks.{Model, Form, Shape, shape, form, panels, worth, WithinLimits}
use Rattle.layout.specs.Variants.{widened_panel, form_with_panel, widened_model, widened_shape}
use Rattle.layout.proofs.Carrying.{exact_fair}
use Rattle.layout.proofs.Laws.{sawn, same_places}
use Rattle.layout.proofs.Variants.{shape_widened, widened_within_limits, widened_within_reach}
use Rattle.rules.specs.Rules.{Placed, RowsApart, Proper, Asked, RuleLaws}
use Rattle.rules.specs.Layers.{SawPatterns, saw_named}
use Rattle.rules.specs.Rowwise.{form_varied, panel_varied, along_widened, across_widened, spans, sized_rows, value_varied, worth_alike}
use Rattle.rules.specs.Answering.{within_more}
use Rattle.rules.specs.Layered.{Layer, layer_laws}

known_below : (g : ℕ) (s : Shape) (r : Row) → Placed (widened_shape g s) r → r.kind < size s.forms
known_below g s r p = omega (arith, p.known, length-map s.forms (form_with_panel (widened_panel g)))

along_below : (g : ℕ) (s : Shape) (r : Row) → r.kind < size s.forms → along (panel_of (panels (widened_shape g s)) r) r.turned ≡ along (panel_of (panels s) r) r.turned + g
along_below g s r known =
    ap (λ (q : Panel). along q r.turned) (panel_varied (widened_panel g) s.forms r.kind known) ∙ along_widened g (panel_of (panels s) r) r.turned

across_below : (g : ℕ) (s : Shape) (r : Row) → r.kind < size s.forms → across (panel_of (panels (widened_shape g s)) r) r.turned ≡ across (panel_of (panels s) r) r.turned + g
across_below g s r known =
    ap (λ (q : Panel). across q r.turned) (panel_varied (widened_panel g) s.forms r.kind known) ∙ across_widened g (panel_of (panels s) r) r.turned

placed : (g : ℕ) (s : Shape) (r : Row) → Placed (widened_shape g s) r → Placed s r
placed g s r p =
    let known = known_below g s r p in
    record {
      known = known;
      wanted = sym (ap (λ (f : Form). f.wanted) (form_varied (widened_panel g) s.forms r.kind known)) ∙ p.wanted;
      turn = subst (λ (q : Panel). (r.turned ≡ 0) ⊎ ((r.turned ≡ 1) × (q.may_turn ≡ true))) (panel_varied (widened_panel g) s.forms r.kind known) p.turn;
      inside_along = omega (arith, along_below g s r known, p.inside_along);
      inside_across = omega (arith, across_below g s r known, p.inside_across);
      unspared = p.unspared;
    }

apart : (g stages saw : ℕ) (m : Model) → WithinLimits m → (rows : List Row) → All (Placed (widened_shape g (shape m))) rows → RowsApart saw stages (widened_shape g (shape m)) rows → RowsApart (saw + g) stages (shape m) rows
apart g stages saw m limits rows each below =
    sawn exact_fair saw stages g m.length m.width (pieces (panels (shape m)) rows) (sized_rows m limits rows (All-weaker (Placed (widened_shape g (shape m))) (λ (r : Row). r.kind < size m.kinds) known rows each))
    (same_places exact_fair saw stages (plate (m.length + g) (m.width + g)) (pieces (panels (widened_shape g (shape m))) rows) (enlarged g (pieces (panels (shape m)) rows)) refl same below)
  where
    known : (r : Row) → Placed (widened_shape g (shape m)) r → r.kind < size m.kinds
    known r p = omega (arith, known_below g (shape m) r p, length-map m.kinds form)

    same : (i : ℕ) → i < size rows → (enlarged g (pieces (panels (shape m)) rows)).place i ≡ place_of (panels (widened_shape g (shape m))) (slice_index_or rows i blank)
    same i lt =
        let r = get_or rows i blank in
        let k = known_below g (shape m) r (All-get_or (Placed (widened_shape g (shape m))) rows i blank lt each) in
        ap (λ n. spans r.x n r.y (r.y + across (panel_of (panels (shape m)) r) r.turned + g)) (omega (arith, along_below g (shape m) r k))
        ∙ ap (λ n. spans r.x (r.x + along (panel_of (panels (widened_shape g (shape m))) r) r.turned) r.y n) (omega (arith, across_below g (shape m) r k))

proper : (g stages saw : ℕ) (m : Model) → WithinLimits m → (rows : List Row) → Proper stages saw (widened_shape g (shape m)) rows → Proper stages (saw + g) (shape m) rows
proper g stages saw m limits rows p = record {
  few = p.few;
  placed = All-weaker (Placed (widened_shape g (shape m))) (Placed (shape m)) (placed g (shape m)) rows p.placed;
  numbered = p.numbered;
  apart = apart g stages saw m limits rows p.placed p.apart;
}

-- a list is worth the same below
pub worth_widened : (g : ℕ) (m : Model) (rows : List Row) → worth m rows ≡ worth (widened_model g m) rows
worth_widened g m = worth_alike m (widened_model g m) (λ r. sym (value_varied (widened_panel g) m.kinds r.kind))

-- the task below is one that the rule there answers for
pub asked_widened : {reach : ℕ} (g : ℕ) (m : Model) → g ≤ reach → reach ≤ 3200 → Asked (reach - g) m → Asked reach (widened_model g m)
asked_widened g m small far a = record {
  limits = widened_within_limits g m (omega arith) a.limits (within_more (omega arith) a.within);
  within = widened_within_reach g m small a.within;
}

saw_layer : (g reach stages saw : ℕ) → g ≤ reach → reach ≤ 3200 → 1 ≤ stages → Layer (widened_model g) (widened_shape g) (λ rows. rows) reach stages saw (reach - g) stages (saw + g)
saw_layer g reach stages saw small far staged = record {
  asks = λ m a. asked_widened g m small far a;
  shapes = shape_widened g;
  nothing = refl;
  worth_is = worth_widened g;
  keeps = λ m a rows p. proper g stages saw m a.limits rows p;
  far = omega arith;
  staged = staged;
}

pub saw_laws : {patterns : Shape → List Row → Type 0} {named : Model → List Row} {reach stages saw : ℕ} (g : ℕ) → g ≤ reach → RuleLaws patterns named reach stages saw → RuleLaws (SawPatterns g patterns) (saw_named g named) (reach - g) stages (saw + g)
saw_laws {reach = reach} {stages = stages} {saw = saw} g small below = layer_laws (saw_layer g reach stages saw small below.far below.staged) below
