-- Strips that are laid without gaps: where their rows stand.
use Rattle.std.proofs.Common.{◌≡◌, ℕ, suc, ◌+◌, ◌≤◌, true, ◌⊎◌, List, [], ◌∷◌, ◌++◌, sym, refl, ap, ◌∙◌, subst, append_assoc, arith}
use Rattle.std.specs.List.{AllByRecursion}
use Rattle.std.proofs.lemmas.List.{length-map}
use Rattle.std.proofs.lemmas.List.Elements.{All-from_recursion}
use Rattle.std.proofs.ByRecursion.{All-append}
use Rattle.layout.specs.declared.panel.Panel.{Panel}
use Rattle.layout.specs.declared.row.Row.{Row}
use Rattle.layout.specs.Pieces.{along, across, end, top}
use Rattle.layout.specs.Tasks.{Model, Form, Shape, shape, form, panels, value_of}
use Rattle.rules.specs.Rules.{Placed}
use Rattle.patterns.specs.declared.Oriented.{Oriented}
use Rattle.patterns.specs.Sets.{GoesOn}
use Rattle.patterns.specs.Sets.GoesOn.{same, strip}
use Rattle.patterns.specs.Sequences.{sum}
use Rattle.patterns.specs.Strips.{Strip, row, rows_of_strip, lay}
use Rattle.patterns.specs.Counting.{Counted}
use Rattle.patterns.proofs.Lists.{all_each}
use Rattle.patterns.proofs.Sizes.{form_is, panel_is}

-- a strip that a segment of length l can hold
pub record Ready (m : Model) (l : ℕ) (st : Strip ℕ) : Type 0 where
  pub each : AllByRecursion (λ (o : Oriented). Counted m o × (o.across ≤ st.across)) st.pieces
  pub room : sum (λ (o : Oriented). o.along) st.pieces ≤ l
  pub worth_is : sum (λ (o : Oriented). o.value) st.pieces ≡ st.worth
  pub some : 1 ≤ st.worth

-- what is known of a row of a segment g that reaches from lo on for l
pub record Laid (s : Shape) (g lo l : ℕ) (r : Row) : Type 0 where
  pub placed : Placed s r
  pub segment : r.segment ≡ g
  pub left : lo ≤ r.x
  pub right : end (panels s) r ≤ lo + l

module _ (m : Model) where
  end_is : (g n y x : ℕ) (o : Oriented) → Counted m o → end (panels (shape m)) (row g n y x o) ≡ x + o.along
  end_is g n y x o c = ap (λ (f : Panel). x + along f o.turned) (panel_is m (row g n y x o)) ∙ ap (λ z. x + z) (sym c.along_is)

  top_is : (g n y x : ℕ) (o : Oriented) → Counted m o → top (panels (shape m)) (row g n y x o) ≡ y + o.across
  top_is g n y x o c = ap (λ (f : Panel). y + across f o.turned) (panel_is m (row g n y x o)) ∙ ap (λ z. y + z) (sym c.across_is)

  put : (g n y x : ℕ) (o : Oriented) → Counted m o → x + o.along ≤ m.length → y + o.across ≤ m.width → Placed (shape m) (row g n y x o)
  put g n y x o c a b =
      record {
        known = omega (arith, c.known, length-map m.kinds form);
        wanted = ap (λ (k : Form). k.wanted) (form_is m (row g n y x o)) ∙ c.wanted;
        turn = subst (λ (p : Panel). (o.turned ≡ 0) ⊎ ((o.turned ≡ 1) × (p.may_turn ≡ true))) (sym (panel_is m (row g n y x o))) c.turn;
        inside_along = omega (arith, end_is g n y x o c);
        inside_across = omega (arith, top_is g n y x o c);
        unspared = refl;
      }

  -- ---- each row by itself
  module _ (g lo l : ℕ) (within : lo + l ≤ m.length) where
    laid_strip : (n y h x : ℕ) (os : List Oriented) → AllByRecursion (λ (o : Oriented). Counted m o × (o.across ≤ h)) os → y + h ≤ m.width → lo ≤ x → x + sum (λ (o : Oriented). o.along) os ≤ lo + l → AllByRecursion (Laid (shape m) g lo l) (rows_of_strip g n y x os)
    laid_strip n y h x [] ok high low room = tt
    laid_strip n y h x (o ∷ os) ok high low room = (
      record { placed = put g n y x o ok.0.0 (omega arith) (omega (arith, ok.0.1)); segment = refl; left = low; right = omega (arith, end_is g n y x o ok.0.0) },
      laid_strip n y h (x + o.along) os ok.1 high (omega arith) (omega arith),
    )

    pub laid : (n y : ℕ) (sts : List (Strip ℕ)) → AllByRecursion (Ready m l) sts → y + sum (λ (st : Strip ℕ). st.across) sts ≤ m.width → AllByRecursion (Laid (shape m) g lo l) (lay g n lo y sts)
    laid n y [] ok high = tt
    laid n y (st ∷ sts) ok high =
        All-append (Laid (shape m) g lo l) (rows_of_strip g n y lo st.pieces) (lay g (suc n) lo (y + st.across) sts)
        (laid_strip n y st.across lo st.pieces ok.0.each (omega arith) (omega arith) (omega (arith, ok.0.room)))
        (laid (suc n) (y + st.across) sts ok.1 (omega arith))

  -- ---- their order
  module _ (g lo l : ℕ) (more : List Row) (then : (q : Row) (before : List Row) → q.segment ≡ g → GoesOn (shape m) q before more) where
    -- the rest of a strip, and what follows it
    strip_goes : (n y h x : ℕ) (os : List Oriented) (rest : List Row) → AllByRecursion (λ (o : Oriented). Counted m o × (o.across ≤ h)) os
        → ((q : Row) (before : List Row) → q.segment ≡ g → q.strip ≡ n → AllByRecursion (λ (b : Row). top (panels (shape m)) b ≤ y + h) (q ∷ before) → GoesOn (shape m) q before rest)
        → (p : Row) (earlier : List Row) → p.segment ≡ g → p.strip ≡ n → p.y ≡ y → end (panels (shape m)) p ≤ x → AllByRecursion (λ (b : Row). top (panels (shape m)) b ≤ y + h) (p ∷ earlier) → GoesOn (shape m) p earlier (rows_of_strip g n y x os ++ rest)
    strip_goes n y h x [] rest ok go p earlier e f at_y by_x tops = go p earlier e f tops
    strip_goes n y h x (o ∷ os) rest ok go p earlier e f at_y by_x tops =
        same (record { segment = sym e; strip = sym f; level = sym at_y; beyond = by_x })
        (strip_goes n y h (x + o.along) os rest ok.1 go (row g n y x o) (p ∷ earlier) refl refl refl (omega (arith, end_is g n y x o ok.0.0)) (omega (arith, top_is g n y x o ok.0.0, ok.0.1), tops))

    -- the strips from number n on, after a row of the strip before
    lay_goes : (n y : ℕ) (sts : List (Strip ℕ)) → AllByRecursion (Ready m l) sts → (p : Row) (earlier : List Row) → p.segment ≡ g → suc p.strip ≡ n → AllByRecursion (λ (b : Row). top (panels (shape m)) b ≤ y) (p ∷ earlier) → GoesOn (shape m) p earlier (lay g n lo y sts ++ more)
    lay_goes n y [] ok p earlier e f tops = then p earlier e
    lay_goes n y (st ∷ sts) ok p earlier e f tops = rw append_assoc (by st.pieces ok.0.each (omega (arith, ok.0.worth_is, ok.0.some)) (λ q before c d low. lay_goes (suc n) (y + st.across) sts ok.1 q before c (ap suc d) low))
      where
        by : (os : List Oriented) → AllByRecursion (λ (o : Oriented). Counted m o × (o.across ≤ st.across)) os → 1 ≤ sum (λ (o : Oriented). o.value) os
            → ((q : Row) (before : List Row) → q.segment ≡ g → q.strip ≡ n → AllByRecursion (λ (b : Row). top (panels (shape m)) b ≤ y + st.across) (q ∷ before) → GoesOn (shape m) q before (lay g (suc n) lo (y + st.across) sts ++ more))
            → GoesOn (shape m) p earlier (rows_of_strip g n y lo os ++ (lay g (suc n) lo (y + st.across) sts ++ more))
        by [] each some go = absurd (omega arith)
        by (o ∷ os) each some go =
            strip (record { segment = sym e; strip = sym f; above = All-from_recursion (λ (b : Row). top (panels (shape m)) b ≤ y) (p ∷ earlier) tops })
            (strip_goes n y st.across (lo + o.along) os (lay g (suc n) lo (y + st.across) sts ++ more) each.1 go (row g n y lo o) [] refl refl refl (omega (arith, end_is g n y lo o each.0.0)) (omega (arith, top_is g n y lo o each.0.0, each.0.1), tt))

    -- a segment's rows begin with strip 0, at the front of the segment
    pub record Begins (rows : List Row) : Type 0 where
      pub first : Row
      pub rest : List Row
      pub is : rows ≡ first ∷ rest
      pub segment : first.segment ≡ g
      pub strip : first.strip ≡ 0
      pub next : GoesOn (shape m) first [] rest

    pub begins : (st : Strip ℕ) (sts : List (Strip ℕ)) → AllByRecursion (Ready m l) (st ∷ sts) → Begins (lay g 0 lo 0 (st ∷ sts) ++ more)
    begins st sts ok = rw append_assoc (by st.pieces ok.0.each (omega (arith, ok.0.worth_is, ok.0.some)))
      where
        by : (os : List Oriented) → AllByRecursion (λ (o : Oriented). Counted m o × (o.across ≤ st.across)) os → 1 ≤ sum (λ (o : Oriented). o.value) os → Begins (rows_of_strip g 0 0 lo os ++ (lay g 1 lo (0 + st.across) sts ++ more))
        by [] each some = absurd (omega arith)
        by (o ∷ os) each some =
            record {
              first = row g 0 0 lo o;
              rest = rows_of_strip g 0 0 (lo + o.along) os ++ (lay g 1 lo (0 + st.across) sts ++ more);
              is = refl;
              segment = refl;
              strip = refl;
              next =
                  strip_goes 0 0 st.across (lo + o.along) os (lay g 1 lo (0 + st.across) sts ++ more) each.1 (λ q before c d low. lay_goes 1 (0 + st.across) sts ok.1 q before c (ap suc d) low)
                  (row g 0 0 lo o) [] refl refl refl (omega (arith, end_is g 0 0 lo o each.0.0)) (omega (arith, top_is g 0 0 lo o each.0.0, each.0.1), tt);
            }

  -- ---- what they are worth
  worth_strip : (g n y x : ℕ) (os : List Oriented) (more : List Row) → AllByRecursion (Counted m) os → sum (value_of m) (rows_of_strip g n y x os ++ more) ≡ sum (λ (o : Oriented). o.value) os + sum (value_of m) more
  worth_strip g n y x [] more ok = omega arith
  worth_strip g n y x (o ∷ os) more ok = omega (arith, ok.0.value_is, worth_strip g n y (x + o.along) os more ok.1)

  pub worth_lay : (g n x y l : ℕ) (sts : List (Strip ℕ)) → AllByRecursion (Ready m l) sts → sum (value_of m) (lay g n x y sts) ≡ sum (λ (st : Strip ℕ). st.worth) sts
  worth_lay g n x y l [] ok = refl
  worth_lay g n x y l (st ∷ sts) ok =
      omega (arith, worth_strip g n y x st.pieces (lay g (suc n) x (y + st.across) sts) (all_each (λ o c. c.0) st.pieces ok.0.each), ok.0.worth_is, worth_lay g (suc n) x (y + st.across) l sts ok.1)
