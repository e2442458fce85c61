-- What a layer's change of panels and rows does to the piece of a row: its sizes, its place, its worth.
use Rattle.std.specs.Prelude.{All, ◌≡◌, ℕ, zero, suc, ◌+◌, ◌<◌, ◌≤◌, List, [], ◌∷◌, map, length as size, get_or, slice_index_or, refl}
use Rattle.std.proofs.Common.{sym, ap, subst, ◌∙◌, arith}
use Rattle.std.proofs.lemmas.List.{get_or-map}
use Rattle.std.proofs.Math.ListN.{get_or-map as get_or-mapped}
use Rattle.std.proofs.lemmas.List.Elements.{All-get_or}
use Rattle.layout.specs.declared.panel.Panel.{Panel}
use Rattle.layout.specs.declared.panel.Kind.{Kind}
use Rattle.layout.specs.declared.row.Row.{Row}
use Rattle.layout.specs.declared.rect.Rect.{Rect}
use Rattle.layout.specs.Limits.{no_kind}
use Rattle.layout.specs.Pieces.{no_panel, blank, along, across, panel_of}
use Rattle.layout.specs.Apart.{Sized, swapped}
use Rattle.layout.specs.Places.{place_of, pieces}
use Rattle.layout.specs.Tasks.{Model, Form, Shape, shape, form, no_form, panels, value_of, worth, WithinLimits}
use Rattle.layout.specs.Variants.{exchanged_panel, widened_panel, form_with_panel, with_panel, exchanged_shape}
use Rattle.rules.specs.Layers.{exchanged_row}

-- ---- the panel of a row

-- the forms of a changed task, and their panels
pub form_varied : (f : Panel → Panel) (forms : List Form) (k : ℕ) → k < size forms → slice_index_or (map (form_with_panel f) forms) k no_form ≡ form_with_panel f (slice_index_or forms k no_form)
form_varied f forms k known = get_or-map (form_with_panel f) forms k no_form no_form known

panel_at : (forms : List Form) (k : ℕ) → slice_index_or (map (λ (x : Form). x.panel) forms) k no_panel ≡ (get_or forms k no_form).panel
panel_at forms k = get_or-mapped (λ (x : Form). x.panel) forms k no_form

pub panel_varied : (f : Panel → Panel) (forms : List Form) (k : ℕ) → k < size forms → slice_index_or (map (λ (x : Form). x.panel) (map (form_with_panel f) forms)) k no_panel ≡ f (slice_index_or (map (λ (x : Form). x.panel) forms) k no_panel)
panel_varied f forms k known =
    panel_at (map (form_with_panel f) forms) k ∙ ap (λ (x : Form). x.panel) (form_varied f forms k known) ∙ ap f (sym (panel_at forms k))

-- the panel of a kind
pub panel_of_kind : (m : Model) (k : ℕ) → slice_index_or (panels (shape m)) k no_panel ≡ (get_or m.kinds k no_kind).panel
panel_of_kind m k = panel_at (map form m.kinds) k ∙ ap (λ (x : Form). x.panel) (get_or-mapped form m.kinds k no_kind)

-- ---- its sizes

pub along_exchanged : (p : Panel) (t : ℕ) → along (exchanged_panel p) t ≡ across p t
along_exchanged p zero = refl
along_exchanged p (suc t) = refl

pub across_exchanged : (p : Panel) (t : ℕ) → across (exchanged_panel p) t ≡ along p t
across_exchanged p zero = refl
across_exchanged p (suc t) = refl

pub along_widened : (g : ℕ) (p : Panel) (t : ℕ) → along (widened_panel g p) t ≡ along p t + g
along_widened g p zero = refl
along_widened g p (suc t) = refl

pub across_widened : (g : ℕ) (p : Panel) (t : ℕ) → across (widened_panel g p) t ≡ across p t + g
across_widened g p zero = refl
across_widened g p (suc t) = refl

-- a panel with lawful sides is some millimetres long and wide either way
pub sized_panel : (p : Panel) (t : ℕ) → 50 ≤ p.length → 50 ≤ p.width → (50 ≤ along p t) × (50 ≤ across p t)
sized_panel p zero l w = (l, w)
sized_panel p (suc t) l w = (w, l)

pub sized_row : (m : Model) → WithinLimits m → (r : Row) → r.kind < size m.kinds → (50 ≤ along (panel_of (panels (shape m)) r) r.turned) × (50 ≤ across (panel_of (panels (shape m)) r) r.turned)
sized_row m limits r known =
    let k = limits.sides r.kind known in
    let e = sym (panel_of_kind m r.kind) in
    subst (λ (p : Panel). (50 ≤ along p r.turned) × (50 ≤ across p r.turned)) e (sized_panel (get_or m.kinds r.kind no_kind).panel r.turned k.0.0 k.1.0)

pub sized_rows : (m : Model) → WithinLimits m → (rows : List Row) → All (λ (r : Row). r.kind < size m.kinds) rows → Sized (pieces (panels (shape m)) rows)
sized_rows m limits rows known i lt =
    let z = sized_row m limits (slice_index_or rows i blank) (All-get_or (λ (r : Row). r.kind < size m.kinds) rows i blank lt known) in
    (omega (arith, z.0), omega (arith, z.1))

-- ---- its place

-- a rectangle by where its extents begin and end
abbrev pub spans : ℕ → ℕ → ℕ → ℕ → Rect
spans a b c d = record { along = record { from = a; to = b }; across = record { from = c; to = d } }

abbrev rect : ℕ → ℕ → ℕ → ℕ → Rect
rect x y a b = spans x (x + a) y (y + b)

same_rect : {x y a a' b b' : ℕ} → a ≡ a' → b ≡ b' → rect x y a b ≡ rect x y a' b'
same_rect {x} {y} {a} {a'} {b} {b'} p q = ap (λ n. rect x y n b) p ∙ ap (λ n. rect x y a' n) q

pub place_exchanged : (s : Shape) (r : Row) → r.kind < size s.forms → place_of (panels s) (exchanged_row r) ≡ swapped (place_of (panels (exchanged_shape s)) r)
place_exchanged s r known =
    let p = panel_of (panels s) r in
    let e = panel_varied exchanged_panel s.forms r.kind known in
    same_rect
    (sym (ap (λ (q : Panel). across q r.turned) e ∙ across_exchanged p r.turned))
    (sym (ap (λ (q : Panel). along q r.turned) e ∙ along_exchanged p r.turned))

-- ---- its worth

pub value_varied : (f : Panel → Panel) (kinds : List Kind) (k : ℕ) → (get_or (map (with_panel f) kinds) k no_kind).value ≡ (get_or kinds k no_kind).value
value_varied f [] k = refl
value_varied f (x ∷ kinds) zero = refl
value_varied f (x ∷ kinds) (suc k) = value_varied f kinds k

-- rows of the same values
pub worth_alike : (m n : Model) → ((r : Row) → value_of m r ≡ value_of n r) → (rows : List Row) → worth m rows ≡ worth n rows
worth_alike m n same [] = refl
worth_alike m n same (r ∷ rows) = ap (λ v. v + worth m rows) (same r) ∙ ap (λ w. value_of n r + w) (worth_alike m n same rows)

-- rows changed in anything but their kind
pub worth_mapped : (m : Model) (change : Row → Row) → ((r : Row) → (change r).kind ≡ r.kind) → (rows : List Row) → worth m (map change rows) ≡ worth m rows
worth_mapped m change same [] = refl
worth_mapped m change same (r ∷ rows) = ap (λ k. (get_or m.kinds k no_kind).value + worth m (map change rows)) (same r) ∙ ap (λ w. value_of m r + w) (worth_mapped m change same rows)
