-- What comes apart still does when it is moved, when part of it is taken, when pieces are left out or named otherwise, and when everything is
-- shortened and the saw widened by as much. This is one induction; the laws of Laws.antt follow from it.
use Rattle.std.proofs.Common.{◌≡◌, ℕ, ◌+◌, ◌-◌, ◌<◌, ◌≤◌, ◌⊎◌, inl, inr, arith}
use Rattle.layout.specs.declared.rect.Span.{Span}
use Rattle.layout.specs.declared.rect.Rect.{Rect}
use Rattle.layout.specs.Apart.{swapped, Inside, Pieces, all_swapped, Holds, Clear, Exact, Finished, Apart}
use Rattle.layout.specs.Apart.Apart.{done, cut, next}

-- U moved by t and then shortened by h is V
pub record Moved (t h : ℕ) (U V : Span) : Type 0 where
  pub start : V.from ≡ U.from + t
  pub stop : V.to + h ≡ U.to + t
  pub some : (h ≡ 0) ⊎ (0 < V.to)

-- U moved by t and then shortened by h has V in it
abbrev pub Reaches : ℕ → ℕ → Span → Span → Type 0
Reaches t h U V = (U.from + t ≤ V.from) × (V.to ≤ U.to + t - h)

-- the part R, moved and shortened alike, has the part S in it
abbrev pub Has : ℕ → ℕ → Rect → Rect → Type 0
Has t h R S = Reaches t h R.along S.along × Reaches t h R.across S.across

-- The pieces qs are some of ps, each moved by t in both directions and then shortened by h in both: qs's piece i is ps's piece pick i.
pub record Carries (t h : ℕ) (ps qs : Pieces) : Type 0 where
  pub pick : ℕ → ℕ
  pub known : (i : ℕ) → i < qs.count → pick i < ps.count
  pub apart : (i j : ℕ) → i < qs.count → j < qs.count → pick i ≡ pick j → i ≡ j
  pub along : (i : ℕ) → i < qs.count → Moved t h (ps.place (pick i)).along (qs.place i).along
  pub across : (i : ℕ) → i < qs.count → Moved t h (ps.place (pick i)).across (qs.place i).across

-- What the laws ask of a test for a finished part: it does not tell the two directions apart, and a part R that passes it with the piece Q
-- still does when both are moved and shortened, as S and P, S perhaps to a part of it.
pub record Fair (test : Rect → Rect → Type 0) : Type 0 where
  pub swaps : (R Q : Rect) → test R Q → test (swapped R) (swapped Q)
  pub carries : (t h : ℕ) (R S Q P : Rect) → Has t h R S → Moved t h Q.along P.along → Moved t h Q.across P.across → Inside P S → test R Q → test S P

-- being exactly the piece is such a test
pub exact_fair : Fair Exact
exact_fair = record { swaps = λ R Q e. (e.1, e.0); carries = λ t h R S Q P has a b inside e. ((omega arith, omega arith), (omega arith, omega arith)) }

abbrev swap_carries : {t h : ℕ} {ps qs : Pieces} → Carries t h ps qs → Carries t h (all_swapped ps) (all_swapped qs)
swap_carries c = record { pick = c.pick; known = c.known; apart = c.apart; along = c.across; across = c.along }

module _ {t h : ℕ} where
  held : {ps qs : Pieces} (c : Carries t h ps qs) {R S : Rect} → Has t h R S → (i : ℕ) → Holds qs S i → Holds ps R (c.pick i)
  held c has i (lt, inside) =
      let a = c.along i lt in
      let b = c.across i lt in
      (c.known i lt, omega arith)

  finished : {test : Rect → Rect → Type 0} → Fair test → {ps qs : Pieces} (c : Carries t h ps qs) {R S : Rect} → Has t h R S → Finished test ps R → Finished test qs S
  finished fair {ps} {qs} c {R} {S} has f i j hi hj =
      let e = f (c.pick i) (c.pick j) (held c has i hi) (held c has j hj) in (
        c.apart i j hi.0 hj.0 e.0,
        fair.carries t h R S (ps.place (c.pick i)) (qs.place i) has (c.along i hi.0) (c.across i hi.0) hi.1 e.1,
      )

  clear : (g p : ℕ) {ps qs : Pieces} (c : Carries t h ps qs) {R S : Rect} → Has t h R S → Clear g ps R p → Clear (g + h) qs S (p + t)
  clear g p {ps} {qs} c has cl i hi = go (cl (c.pick i) (held c has i hi))
    where
      go : ((ps.place (c.pick i)).along.to + g ≤ p) ⊎ (p ≤ (ps.place (c.pick i)).along.from) → ((qs.place i).along.to + (g + h) ≤ p + t) ⊎ (p + t ≤ (qs.place i).along.from)
      go (inl b) = let a = c.along i hi.0 in inl (omega arith)
      go (inr b) = let a = c.along i hi.0 in inr (omega arith)

  pub carry : {test : Rect → Rect → Type 0} → Fair test → {g : ℕ} {ps qs : Pieces} {s : ℕ} {R S : Rect} → Carries t h ps qs → Has t h R S → Apart test g ps s R → Apart test (g + h) qs s S
  carry fair c has (done f) = done (finished fair c has f)
  carry fair {g} c has (cut p cl a b) = cut (p + t) (clear g p c has cl) (carry fair c (omega arith) a) (carry fair c (omega arith) b)
  carry fair c has (next a) = next (carry fair (swap_carries c) (has.1, has.0) a)
