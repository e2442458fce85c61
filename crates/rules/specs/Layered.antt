-- The laws of a layer that asks below with a changed task and changes the rows that come back: what is to be shown of the two changes.
use Rattle.std.specs.Prelude.{◌≡◌, ℕ, ◌≤◌, List, [], refl}
use Rattle.std.proofs.Common.{sym, ap, subst, ◌∙◌, arith}
use Rattle.layout.specs.declared.row.Row.{Row}
use Rattle.layout.specs.Tasks.{Model, Shape, shape, worth}
use Rattle.rules.specs.Rules.{Proper, Asked, RuleLaws}
use Rattle.rules.specs.Layers.{Arises}

-- `ask` is the task asked below, and `lower` the same without values; `change` is what becomes of the rows. Below, a pattern comes apart in
-- `stages` at saw width `saw` and the reach is `reach`; above, these are `stages'`, `saw'` and `reach'`.
pub record Layer (ask : Model → Model) (lower : Shape → Shape) (change : List Row → List Row) (reach stages saw reach' stages' saw' : ℕ) : Type 0 where
  pub asks : (m : Model) → Asked reach' m → Asked reach (ask m)
  pub shapes : (m : Model) → shape (ask m) ≡ lower (shape m)
  pub nothing : change [] ≡ []
  pub worth_is : (m : Model) (rows : List Row) → worth m (change rows) ≡ worth (ask m) rows
  pub keeps : (m : Model) → Asked reach' m → (rows : List Row) → Proper stages saw (lower (shape m)) rows → Proper stages' saw' (shape m) (change rows)
  pub far : reach' ≤ 3200
  pub staged : 1 ≤ stages'

pub layer_laws : {patterns : Shape → List Row → Type 0} {named : Model → List Row} {ask : Model → Model} {lower : Shape → Shape} {change : List Row → List Row} {reach stages saw reach' stages' saw' : ℕ} →
    Layer ask lower change reach stages saw reach' stages' saw' → RuleLaws patterns named reach stages saw → RuleLaws (λ s. Arises change (patterns (lower s))) (λ m. change (named (ask m))) reach' stages' saw'
layer_laws {patterns} {named} {ask} {lower} {change} {reach} {stages} {saw} {reach'} {stages'} {saw'} layer below =
    record {
      far = layer.far;
      staged = layer.staged;
      empty = λ m a. ([], subst (λ s. patterns s []) (layer.shapes m) (below.empty (ask m) (layer.asks m a)), sym layer.nothing);
      proper = λ m a rows p.
          subst (Proper stages' saw' (shape m)) (sym p.2)
          (layer.keeps m a p.0 (subst (λ s. Proper stages saw s p.0) (layer.shapes m) (below.proper (ask m) (layer.asks m a) p.0 (lowered m p.0 p.1))));
      member = λ m a. (named (ask m), subst (λ s. patterns s (named (ask m))) (layer.shapes m) (below.member (ask m) (layer.asks m a)), refl);
      most = λ m a rows p.
          let best = below.most (ask m) (layer.asks m a) p.0 (lowered m p.0 p.1) in
          let mine : worth m rows ≡ worth (ask m) p.0 = ap (worth m) p.2 ∙ layer.worth_is m p.0 in
          omega (arith, best, mine, layer.worth_is m (named (ask m)));
    }
  where
    lowered : (m : Model) (low : List Row) → patterns (lower (shape m)) low → patterns (shape (ask m)) low
    lowered m low p = subst (λ s. patterns s low) (sym (layer.shapes m)) p
