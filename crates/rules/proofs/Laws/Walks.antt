-- To be connected within i is to be joined by a sequence of at most i symbols.
use Prim.Native.Nat.{ℕ, zero, suc, ◌*◌, ◌≤◌, ◌<◌}
use mathlib.Core.Path.{◌≡◌, refl, sym, subst}
use mathlib.Core.Logic.{⊎_elim}
use mathlib.Core.List.{List, [], ◌∷◌, ◌++◌}
use mathlib.Core.Bool.{true, ◌&&◌}
use native.Mathlib.Omega.{arith}
use borrow.Author.Tests.{eqb-true, eq-eqb}
use lib.Dec.{eqb}
use lib.ListN.{length, length-append}
use Rattle.rules.specs.Graph.{Graph, leads, connected}
use Rattle.rules.specs.Lists.{joins}
use Rattle.rules.specs.Published.{Symbols, end, symbol}
use Rattle.rules.proofs.Laws.Tests.{and_left, and_right, and_intro}
use Rattle.rules.proofs.Laws.Finite.{any_find, any_here}
use Rattle.rules.proofs.Laws.Graph.{adjacent_leads, conn_zero, conn_cases}

symbols_snoc : {l s : ℕ} {ss : List ℕ} → Symbols l ss → 0 < s → s ≤ 2 * l → Symbols l (ss ++ (s ∷ []))
symbols_snoc end p h = symbol p h end
symbols_snoc (symbol q k y) p h = symbol q k (symbols_snoc y p h)

module _ (g : Graph) where
  joins_snoc : (ss : List ℕ) (s v m u : ℕ) → u < g.items → joins g ss v m ≡ true → leads g s m u ≡ true → joins g (ss ++ (s ∷ [])) v u ≡ true
  unfolding joins
  joins_snoc [] s v m u hu a b =
      any_here g.items (λ w. leads g s v w && eqb w u) u hu
      (and_intro _ _ (subst (λ (w : ℕ). leads g s w u ≡ true) (sym (eqb-true v m a)) b) (eq-eqb u u refl))
  joins_snoc (z ∷ ss) s v m u hu a b =
      let r = any_find g.items (λ w. leads g z v w && joins g ss w m) a in
      any_here g.items (λ w. leads g z v w && joins g (ss ++ (s ∷ [])) w u) r.0 r.1
      (and_intro _ _ (and_left (leads g z v r.0) (joins g ss r.0 m) r.2)
      (joins_snoc ss s r.0 m u hu (and_right (leads g z v r.0) (joins g ss r.0 m) r.2) b))

  pub record Joined (i v u : ℕ) : Type 0 where
    pub by : List ℕ
    pub symbols : Symbols g.labels by
    pub short : length by ≤ i
    pub joined : joins g by v u ≡ true

  pub conn_sequence : (i v u : ℕ) → u < g.items → connected g i v u ≡ true → Joined i v u
  unfolding joins
  conn_sequence zero v u hu e = record { by = []; symbols = end; short = omega arith; joined = eq-eqb v u (conn_zero g v u e) }
  conn_sequence (suc i) v u hu e =
      ⊎_elim
      (λ t. let r = conn_sequence i v u hu t in record { by = r.by; symbols = r.symbols; short = omega (arith, r.short); joined = r.joined })
      (λ t.
      let r = conn_sequence i v t.0 t.1 t.2 in
      let s = adjacent_leads g t.0 u t.3 in
      record {
        by = r.by ++ (s.0 ∷ []);
        symbols = symbols_snoc r.symbols s.1 s.2;
        short = omega (arith, r.short, length-append r.by (s.0 ∷ []));
        joined = joins_snoc r.by s.0 v t.0 u hu r.joined s.3;
      })
      (conn_cases g i v u e)
