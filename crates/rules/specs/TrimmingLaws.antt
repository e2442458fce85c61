-- The laws of trimming, from those of the rule below.
use Rattle.std.specs.Prelude.{All, ◌≡◌, ℕ, suc, ◌+◌, ◌-◌, ◌<◌, ◌≤◌, List, [], ◌∷◌, map, length as size, slice_index_or, refl}
use Rattle.std.proofs.Common.{ap, subst, ◌∙◌, arith}
use Rattle.std.proofs.lemmas.List.{length-map, get_or-map}
use Rattle.std.proofs.lemmas.List.Elements.{All-head, All-tail, All-map, All-weaker}
use Rattle.layout.specs.declared.row.Row.{Row}
use Rattle.layout.specs.Pieces.{blank, along, across, panel_of}
use Rattle.layout.specs.Apart.{plate}
use Rattle.layout.specs.Changes.{moved}
use Rattle.layout.specs.Places.{place_of, pieces}
use Rattle.layout.specs.Tasks.{Model, Shape, shape, form, panels, worth, WithinLimits}
use Rattle.layout.specs.Sums.{capped}
use Rattle.layout.specs.Variants.{trimmed_model, trimmed_shape}
use Rattle.layout.proofs.Carrying.{exact_fair}
use Rattle.layout.proofs.Laws.{trimmed, same_places}
use Rattle.layout.proofs.Variants.{trimmed_within_limits, trimmed_within_reach}
use Rattle.rules.specs.Rules.{Placed, Numbered, RowsApart, Proper, Asked, RuleLaws}
use Rattle.rules.specs.Layers.{moved_row, TrimmingPatterns, trimming_named}
use Rattle.rules.specs.Sums.{pushed_row}
use Rattle.rules.specs.Rowwise.{spans, sized_row, sized_rows, worth_alike, worth_mapped}
use Rattle.rules.specs.Layered.{Layer, layer_laws}

known_above : (t : ℕ) (m : Model) (r : Row) → Placed (trimmed_shape t (shape m)) r → r.kind < size m.kinds
known_above t m r p = omega (arith, p.known, length-map m.kinds form)

-- a piece has some length and width, so that a plate that holds one below is larger than its border
placed : (t : ℕ) (m : Model) → WithinLimits m → (r : Row) → Placed (trimmed_shape t (shape m)) r → Placed (shape m) (moved_row t r)
placed t m limits r p =
    let z = sized_row m limits r (known_above t m r p) in
    record {
      known = p.known;
      wanted = p.wanted;
      turn = p.turn;
      inside_along = omega (arith, z.0, p.inside_along);
      inside_across = omega (arith, z.1, p.inside_across);
      unspared = p.unspared;
    }

apart_more : (t s saw : ℕ) (m : Model) → WithinLimits m → (rows : List Row) → All (Placed (trimmed_shape t (shape m))) rows → RowsApart saw (suc s) (trimmed_shape t (shape m)) rows → RowsApart saw (suc (suc s)) (shape m) (map (moved_row t) rows)
apart_more t s saw m limits rows each below =
    same_places exact_fair saw (suc (suc s)) (plate m.length m.width) (moved t (pieces (panels (shape m)) rows)) (pieces (panels (shape m)) (map (moved_row t) rows)) (length-map rows (moved_row t)) same
    (trimmed exact_fair saw s t m.length m.width (pieces (panels (shape m)) rows) (sized_rows m limits rows (All-weaker (Placed (trimmed_shape t (shape m))) (λ (r : Row). r.kind < size m.kinds) (known_above t m) rows each)) below)
  where
    one : (r : Row) → place_of (panels (shape m)) (moved_row t r) ≡ spans (r.x + t) (r.x + along (panel_of (panels (shape m)) r) r.turned + t) (r.y + t) (r.y + across (panel_of (panels (shape m)) r) r.turned + t)
    one r =
        ap (λ n. spans (r.x + t) n (r.y + t) (r.y + t + across (panel_of (panels (shape m)) r) r.turned)) (omega arith)
        ∙ ap (λ n. spans (r.x + t) (r.x + along (panel_of (panels (shape m)) r) r.turned + t) (r.y + t) n) (omega arith)

    same : (i : ℕ) → i < size (map (moved_row t) rows) → place_of (panels (shape m)) (slice_index_or (map (moved_row t) rows) i blank) ≡ (moved t (pieces (panels (shape m)) rows)).place i
    same i lt =
        let inside : i < size rows = omega (arith, length-map rows (moved_row t)) in
        ap (place_of (panels (shape m))) (get_or-map (moved_row t) rows i blank blank inside) ∙ one (slice_index_or rows i blank)

apart : (t stages saw : ℕ) (m : Model) → 1 ≤ stages → WithinLimits m → (rows : List Row) → All (Placed (trimmed_shape t (shape m))) rows → RowsApart saw stages (trimmed_shape t (shape m)) rows → RowsApart saw (stages + 1) (shape m) (map (moved_row t) rows)
apart t stages saw m some limits rows each below =
    let from : stages ≡ suc (stages - 1) = omega arith in
    let to : suc (suc (stages - 1)) ≡ stages + 1 = omega arith in
    subst (λ n. RowsApart saw n (shape m) (map (moved_row t) rows)) to (apart_more t (stages - 1) saw m limits rows each (subst (λ n. RowsApart saw n (trimmed_shape t (shape m)) rows) from below))

proper : (t stages saw : ℕ) (m : Model) → 1 ≤ stages → WithinLimits m → (rows : List Row) → Proper stages saw (trimmed_shape t (shape m)) rows → Proper (stages + 1) saw (shape m) (map (moved_row t) rows)
proper t stages saw m some limits rows p = record {
  few = omega (arith, length-map rows (moved_row t), p.few);
  placed = All-map (Placed (shape m)) (moved_row t) rows (All-weaker (Placed (trimmed_shape t (shape m))) (λ (r : Row). Placed (shape m) (moved_row t r)) (placed t m limits) rows p.placed);
  numbered = All-map Numbered (moved_row t) rows p.numbered;
  apart = apart t stages saw m some limits rows p.placed p.apart;
}

-- the worth of the pattern handed up is that of the one below
pub worth_trimmed : (t : ℕ) (m : Model) (rows : List Row) → worth m (map (moved_row t) rows) ≡ worth (trimmed_model t m) rows
worth_trimmed t m rows = worth_mapped m (moved_row t) (λ r. refl) rows ∙ worth_alike m (trimmed_model t m) (λ r. refl) rows

-- the task below is one that the rule there answers for
pub asked_trimmed : {reach : ℕ} (t : ℕ) (m : Model) → Asked reach m → Asked reach (trimmed_model t m)
asked_trimmed t m a = record { limits = trimmed_within_limits t m a.limits; within = trimmed_within_reach t m a.within }

trimming_layer : (t reach stages saw : ℕ) → reach ≤ 3200 → 1 ≤ stages → Layer (trimmed_model t) (trimmed_shape t) (map (moved_row t)) reach stages saw reach (stages + 1) saw
trimming_layer t reach stages saw far staged = record {
  asks = asked_trimmed t;
  shapes = λ m. refl;
  nothing = refl;
  worth_is = worth_trimmed t;
  keeps = λ m a rows p. proper t stages saw m staged a.limits rows p;
  far = far;
  staged = omega arith;
}

pub trimming_laws : {patterns : Shape → List Row → Type 0} {named : Model → List Row} {reach stages saw : ℕ} (t : ℕ) → RuleLaws patterns named reach stages saw → RuleLaws (TrimmingPatterns t patterns) (trimming_named t named) reach (stages + 1) saw
trimming_laws {reach = reach} {stages = stages} {saw = saw} t below = layer_laws (trimming_layer t reach stages saw below.far below.staged) below

abbrev row_at : Row → ℕ → ℕ → Row
row_at r x y = record { kind = r.kind; turned = r.turned; segment = r.segment; strip = r.strip; spare = r.spare; x = x; y = y }

-- the rows of a pattern can be moved: their fields hold the sums
pub pushed_is_moved : (t : ℕ) (m : Model) (rows : List Row) → t ≤ 100 → WithinLimits m → All (Placed (shape m)) rows → map (pushed_row t) rows ≡ map (moved_row t) rows
pushed_is_moved t m [] small limits each = refl
pushed_is_moved t m (r ∷ rows) small limits each =
    let p = All-head (Placed (shape m)) r rows each in
    ap (λ q. q ∷ map (pushed_row t) rows)
    (ap (λ x. row_at r x (capped (r.y + t))) (omega (arith, p.inside_along, limits.plate.0)) ∙ ap (λ y. row_at r (r.x + t) y) (omega (arith, p.inside_across, limits.plate.1)))
    ∙ ap (λ qs. moved_row t r ∷ qs) (pushed_is_moved t m rows small limits (All-tail (Placed (shape m)) r rows each))
