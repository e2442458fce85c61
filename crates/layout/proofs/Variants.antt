-- Tasks with changed kinds: they keep to the limits and to a reach.
use Rattle.std.proofs.Common.{◌≡◌, ℕ, suc, ◌+◌, ◌-◌, ◌<◌, ◌≤◌, List, [], ◌∷◌, map, length as size, get_or, sym, refl, ap, ◌∙◌, subst, inl, inr, arith}
use Rattle.std.proofs.lemmas.List.{length-map, get_or-map}
use Rattle.layout.specs.declared.panel.Panel.{Panel}
use Rattle.layout.specs.declared.panel.Kind.{Kind}
use Rattle.layout.specs.Limits.{no_kind, EachKind, LawfulSides, LawfulValue}
use Rattle.layout.specs.Tasks.{Model, WithinLimits, WithinReach, BeyondReach, KindWithin, form, shape}
use Rattle.layout.specs.Variants.{with_panel, form_with_panel, exchanged_panel, widened_panel, exchanged_model, exchanged_shape, widened_model, widened_shape, trimmed_model, shape_given}
use Rattle.layout.specs.Sums.{stretched_panel}

-- what holds of each kind after a change
pub each_map : (P : Kind → Type 0) (f : Kind → Kind) (kinds : List Kind) → EachKind (λ k. P (f k)) kinds → EachKind P (map f kinds)
each_map P f kinds each i lt =
    let inside : i < size kinds = omega (arith, length-map kinds f) in
    subst P (sym (get_or-map f kinds i no_kind no_kind inside)) (each i inside)

-- and what held before it
pub each_unmap : (P : Kind → Type 0) (f : Kind → Kind) (kinds : List Kind) → EachKind P (map f kinds) → EachKind (λ k. P (f k)) kinds
each_unmap P f kinds each i lt =
    let inside : i < size (map f kinds) = omega (arith, length-map kinds f) in
    subst P (get_or-map f kinds i no_kind no_kind lt) (each i inside)

-- two changes that agree on each kind
pub same_map : (f g : Kind → Kind) (kinds : List Kind) → EachKind (λ k. f k ≡ g k) kinds → map f kinds ≡ map g kinds
same_map f g [] same = refl
same_map f g (k ∷ kinds) same = ap (λ x. x ∷ map f kinds) (same 0 (omega arith)) ∙ ap (λ xs. g k ∷ xs) (same_map f g kinds (λ i lt. same (suc i) (omega arith)))

-- a kind with changed sides has the forms changed alike
pub forms_varied : (f : Panel → Panel) (kinds : List Kind) → map form (map (with_panel f) kinds) ≡ map (form_with_panel f) (map form kinds)
forms_varied f [] = refl
forms_varied f (k ∷ kinds) = ap (λ fs. form_with_panel f (form k) ∷ fs) (forms_varied f kinds)

pub shape_exchanged : (m : Model) → shape (exchanged_model m) ≡ exchanged_shape (shape m)
shape_exchanged m = ap (shape_given m.width m.length) (forms_varied exchanged_panel m.kinds)

pub shape_widened : (g : ℕ) (m : Model) → shape (widened_model g m) ≡ widened_shape g (shape m)
shape_widened g m = ap (shape_given (m.length + g) (m.width + g)) (forms_varied (widened_panel g) m.kinds)

-- a task with its sides exchanged keeps to its limits and to its reach
pub exchanged_sides : (kinds : List Kind) → EachKind LawfulSides kinds → EachKind LawfulSides (map (with_panel exchanged_panel) kinds)
exchanged_sides kinds each = each_map LawfulSides (with_panel exchanged_panel) kinds (λ i lt. ((each i lt).1, (each i lt).0))

pub exchanged_within_limits : (m : Model) → WithinLimits m → WithinLimits (exchanged_model m)
exchanged_within_limits m h = record {
  plate = (h.plate.1, h.plate.0);
  few = omega (arith, length-map m.kinds (with_panel exchanged_panel), h.few);
  sides = exchanged_sides m.kinds h.sides;
  values = each_map LawfulValue (with_panel exchanged_panel) m.kinds h.values;
}

pub exchanged_within_reach : {reach : ℕ} (m : Model) → WithinReach reach m → WithinReach reach (exchanged_model m)
exchanged_within_reach {reach} m w = record {
  plate = (w.plate.1, w.plate.0);
  each = each_map (KindWithin reach) (with_panel exchanged_panel) m.kinds (λ i lt. ((w.each i lt).1, (w.each i lt).0));
}

-- a border taken off
pub trimmed_within_limits : (t : ℕ) (m : Model) → WithinLimits m → WithinLimits (trimmed_model t m)
trimmed_within_limits t m h = record { plate = (omega (arith, h.plate.0), omega (arith, h.plate.1)); few = h.few; sides = h.sides; values = h.values }

pub trimmed_within_reach : {reach : ℕ} (t : ℕ) (m : Model) → WithinReach reach m → WithinReach reach (trimmed_model t m)
trimmed_within_reach t m w = record { plate = (omega (arith, w.plate.0), omega (arith, w.plate.1)); each = w.each }

-- every side widened, within a reach
pub widened_within_reach : {reach : ℕ} (g : ℕ) (m : Model) → g ≤ reach → WithinReach (reach - g) m → WithinReach reach (widened_model g m)
widened_within_reach {reach} g m small w = record {
  plate = (omega (arith, w.plate.0), omega (arith, w.plate.1));
  each = each_map (KindWithin reach) (with_panel (widened_panel g)) m.kinds (λ i lt. let k = w.each i lt in (omega (arith, k.0), omega (arith, k.1)));
}

pub widened_sides : (g : ℕ) (kinds : List Kind) → g ≤ 3200 → EachKind LawfulSides kinds → EachKind (KindWithin (3200 - g)) kinds → EachKind LawfulSides (map (with_panel (widened_panel g)) kinds)
widened_sides g kinds small each within =
    each_map LawfulSides (with_panel (widened_panel g)) kinds
    (λ i lt. let k = each i lt in let w = within i lt in ((omega (arith, k.0.0), omega (arith, w.0)), (omega (arith, k.1.0), omega (arith, w.1))))

pub widened_within_limits : (g : ℕ) (m : Model) → g ≤ 3200 → WithinLimits m → WithinReach (3200 - g) m → WithinLimits (widened_model g m)
widened_within_limits g m small h w = record {
  plate = (omega (arith, w.plate.0), omega (arith, w.plate.1));
  few = omega (arith, length-map m.kinds (with_panel (widened_panel g)), h.few);
  sides = widened_sides g m.kinds small h.sides w.each;
  values = each_map LawfulValue (with_panel (widened_panel g)) m.kinds h.values;
}

-- a task with a side beyond the reach less g would pass its limits if it were widened by g
pub too_wide : (g : ℕ) (m : Model) → g ≤ 3200 → BeyondReach (3200 - g) m → WithinLimits (widened_model g m) → ⊥
too_wide g m small (inl long) h = omega (arith, h.plate.0)
too_wide g m small (inr (inl wide)) h = omega (arith, h.plate.1)
too_wide g m small (inr (inr (i, lt, beyond))) h =
    let k = each_unmap LawfulSides (with_panel (widened_panel g)) m.kinds h.sides i lt in
    omega (arith, beyond, k.0.1, k.1.1)

abbrev panel_with : ℕ → ℕ → Kind → Kind
panel_with l w k = record { panel = record { length = l; width = w; may_turn = k.panel.may_turn }; value = k.value; wanted = k.wanted }

-- within the greatest side no field is too small for the sum
pub stretched_is_widened : (g : ℕ) (kinds : List Kind) → g ≤ 3200 → EachKind (KindWithin (3200 - g)) kinds → map (with_panel (stretched_panel g)) kinds ≡ map (with_panel (widened_panel g)) kinds
stretched_is_widened g kinds small within =
    same_map (with_panel (stretched_panel g)) (with_panel (widened_panel g)) kinds
    (λ i lt. let w = within i lt in
    let k = get_or kinds i no_kind in
    ap (λ l. panel_with l (stretched_panel g k.panel).width k) (omega (arith, w.0)) ∙ ap (λ n. panel_with (k.panel.length + g) n k) (omega (arith, w.1)))

-- and so it is where the widened kinds keep to the limits
pub stretched_within_limits : (g : ℕ) (kinds : List Kind) → EachKind LawfulSides (map (with_panel (widened_panel g)) kinds) → map (with_panel (stretched_panel g)) kinds ≡ map (with_panel (widened_panel g)) kinds
stretched_within_limits g [] lawful = refl
stretched_within_limits g (k ∷ kinds) lawful =
    let sides = each_unmap LawfulSides (with_panel (widened_panel g)) (k ∷ kinds) lawful in
    let first = sides 0 (omega arith) in
    stretched_is_widened g (k ∷ kinds) (omega (arith, first.0.1)) (λ i lt. let at = sides i lt in (omega (arith, at.0.1), omega (arith, at.1.1)))
