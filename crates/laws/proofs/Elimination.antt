-- Elimination over two elements, column by column from the last to the first, of the rows that are no pivot rows yet: what holds after
-- each column, the two steps, and how the check bits of a word follow from the rows at the end. The steps say entry by entry what a
-- matrix becomes, so any layout of it fits.
-- Assumes nothing.
use Prim.Native.Nat.{ℕ, zero, suc, ◌≤◌, ◌<◌}
use mathlib.Core.Path.{◌≡◌, refl, sym, ap, ap₂, ◌∙◌, subst, subst⁻¹}
use mathlib.Core.Bool.{Bool, true, false, cond, ◌&&◌, ◌||◌, xor, and-true, and-false, or-true}
use native.Mathlib.Omega.{arith}
use native.Mathlib.Decide.{ℕ_discrete, dec_lt}
use lib.Dec.{ltb, eqb}
use borrow.Author.Tests.{eq-eqb, ne_eqb, lt-ltb, le-ltb, ltb-true}
use Rattle.symbology.specs.Matrix.{BitMatrix}
use Rattle.symbology.proofs.Ranges.{clash, and_left, and_right}
use Rattle.laws.proofs.Ranges.{by, or_right}
use Rattle.laws.proofs.Gf2.{parity_short, parity_none, parity_only, dot_ext, xor_dot}
use Rattle.laws.proofs.Gf2.{scale_dot, meets_ext, xor_none, xor_same, and_no}
use Rattle.laws.specs.Gf2.{parity, dot, Meets}
use Rattle.laws.proofs.Kernel.{Dependency, CheckColumnLaws}
use Rattle.laws.specs.Elimination.{Pivot, Inv}

-- The dot product with a row whose last 1 stands in column c.
lead_dot : (n : ℕ) (f w : ℕ → Bool) (c : ℕ) → c < n → f c ≡ true → ((d : ℕ) → c < d → d < n → f d ≡ false)
    → dot n f w ≡ xor (dot c f w) (w c)
unfolding parity
lead_dot n f w c h o z =
    parity_short (suc c) n (λ d. f d && w d) h (λ d g l. ap (λ (b : Bool). b && w d) (z d g l))
    ∙ ap (λ (b : Bool). xor (dot c f w) (b && w c)) o

module _ (k n : ℕ) (a : BitMatrix) (chk : ℕ → Bool) where
  -- Before the first step the matrix is a itself, and no row is used.
  pub start : (r : BitMatrix) (used : ℕ → Bool) (row : ℕ → ℕ) → ((i : ℕ) → i < k → (c : ℕ) → c < n → r i c ≡ a i c)
      → ((i : ℕ) → i < k → used i ≡ false) → Inv k n a chk r used row n
  start r used row same none = record {
    to = λ w. meets_ext k n a r w w (λ i h c g. sym (same i h c g)) (λ c g. refl);
    from = λ w. meets_ext k n r a w w same (λ c g. refl);
    row_lt = λ c p. absurd (omega arith);
    row_used = λ c p. absurd (omega arith);
    row_one = λ c d p q e. absurd (omega arith);
    lead = λ c p. absurd (omega arith);
    high = λ c p d l g. absurd (omega arith);
    owner = λ i h u. clash u (none i h);
    none = λ i h u c l g. absurd (omega arith);
  }

  -- What holds of a matrix, its used rows and its pivots' rows holds of any that agree with them inside the bounds.
  pub inv_ext : (r r' : BitMatrix) (used used' : ℕ → Bool) (row row' : ℕ → ℕ) (j : ℕ) → Inv k n a chk r used row j
      → ((i : ℕ) → i < k → (c : ℕ) → c < n → r' i c ≡ r i c)
      → ((i : ℕ) → i < k → used' i ≡ used i)
      → ((c : ℕ) → j ≤ c → c < n → row' c ≡ row c)
      → Inv k n a chk r' used' row' j
  inv_ext r r' used used' row row' j inv er eu ew = record {
    to = λ w m. meets_ext k n r r' w w (λ i h c g. sym (er i h c g)) (λ c g. refl) (inv.to w m);
    from = λ w m. inv.from w (meets_ext k n r' r w w er (λ c g. refl) m);
    row_lt = λ c p. rw (at c p) (inv.row_lt c p);
    row_used = λ c p. rw (at c p) (eu (row c) (inv.row_lt c p) ∙ inv.row_used c p);
    row_one = λ c d p q e. inv.row_one c d p q (sym (at c p) ∙ e ∙ at d q);
    lead = λ c p. rw (at c p) (er (row c) (inv.row_lt c p) c p.1 ∙ inv.lead c p);
    high = λ c p d l g. rw (at c p) (er (row c) (inv.row_lt c p) d g ∙ inv.high c p d l g);
    owner = λ i h u. let o = inv.owner i h (sym (eu i h) ∙ u) in (o.0, o.1, at o.0 o.1 ∙ o.2);
    none = λ i h u c l g. er i h c g ∙ inv.none i h (sym (eu i h) ∙ u) c l g;
  }
    where
      at : (c : ℕ) → Pivot n chk j c → row' c ≡ row c
      at c p = ew c p.0 p.1

  module _ (r : BitMatrix) (used : ℕ → Bool) (row : ℕ → ℕ) where
    -- ---- words solved

    -- A word whose bit in a check column is the sum of the earlier bits in the ones of its row meets that row.
    pivot_met : (j : ℕ) → Inv k n a chk r used row j → (w : ℕ → Bool) (i c : ℕ) → Pivot n chk j c → row c ≡ i
        → w c ≡ dot c (r (row c)) w → dot n (r i) w ≡ false
    pivot_met j inv w i c p e fills =
        subst (λ (x : ℕ). dot n (r x) w ≡ false) e
        (lead_dot n (r (row c)) w c p.1 (inv.lead c p) (inv.high c p)
        ∙ ap (xor (dot c (r (row c)) w)) fills ∙ xor_same (dot c (r (row c)) w))

    -- a word in the kernel's making: the columns below m that are check columns behind j hold the sum of their row's earlier bits, the
    -- other columns what `base` says
    module _ (j : ℕ) (base : ℕ → Bool) where
      is_solved : ℕ → Bool
      is_solved c = chk c && ltb j c

      solved_to : ℕ → ℕ → Bool
      solved_to zero c = base c
      solved_to (suc m) c = cond (eqb c m && is_solved m) (dot m (r (row m)) (solved_to m)) (solved_to m c)

      -- another column is as it was
      solved_past : (m c : ℕ) → (c ≡ m → ⊥) → solved_to (suc m) c ≡ solved_to m c
      unfolding solved_to
      solved_past m c h = ap (λ (b : Bool). cond (b && is_solved m) (dot m (r (row m)) (solved_to m)) (solved_to m c)) (ne_eqb c m h)

      -- a column that was passed is as its own step left it
      solved_early : (m c : ℕ) → c < m → solved_to m c ≡ solved_to (suc c) c
      solved_early zero c h = absurd (omega arith)
      solved_early (suc m) c h =
          elim (ℕ_discrete c m) [
            | yes e ↦ rw e refl
            | no e ↦ solved_past m c e ∙ solved_early m c (omega arith)
          ]

      -- a column that is not solved holds the base's bit
      solved_base : (m c : ℕ) → is_solved c ≡ false → solved_to m c ≡ base c
      unfolding solved_to
      solved_base zero c z = refl
      solved_base (suc m) c z =
          elim (ℕ_discrete c m) [
            | yes e ↦
                ap (λ (b : Bool). cond (eqb c m && b) (dot m (r (row m)) (solved_to m)) (solved_to m c)) (sym (ap is_solved e) ∙ z)
                ∙ ap (λ (b : Bool). cond b (dot m (r (row m)) (solved_to m)) (solved_to m c)) (and-false (eqb c m))
                ∙ solved_base m c z
            | no e ↦ solved_past m c e ∙ solved_base m c z
          ]

      -- a column that is solved holds the sum of its row's earlier bits
      solved_sum : (m c : ℕ) → c < m → is_solved c ≡ true → solved_to m c ≡ dot c (r (row c)) (solved_to m)
      unfolding solved_to
      solved_sum m c h o =
          solved_early m c h
          ∙ ap₂ (λ (b z : Bool). cond (b && z) (dot c (r (row c)) (solved_to c)) (solved_to c c)) (eq-eqb c c refl) o
          ∙ dot_ext c (r (row c)) (r (row c)) (solved_to c) (solved_to m) (λ x g. refl)
          (λ x g. solved_early c x g ∙ sym (solved_early m x (omega arith)))

    -- ---- which kind a column is

    module _ (law : CheckColumnLaws k n a chk) (j : ℕ) (h : j < n) (inv : Inv k n a chk r used row (suc j)) where
      -- column j and the check columns behind it that make its sum
      parts : ℕ → Bool
      parts = solved_to j (λ c. eqb c j) n

      solved_pivot : (c : ℕ) → c < n → is_solved j (λ c. eqb c j) c ≡ true → Pivot n chk (suc j) c
      unfolding is_solved
      solved_pivot c g o = (ltb-true j c (and_right (chk c) (ltb j c) o), g, and_left (chk c) (ltb j c) o)

      is_solved_lem : (c : ℕ) → Pivot n chk (suc j) c → is_solved j (λ c. eqb c j) c ≡ true
      unfolding is_solved
      is_solved_lem c p = ap₂ ◌&&◌ p.2 (lt-ltb j c p.0)

      unsolved : (c : ℕ) → c ≤ j → is_solved j (λ c. eqb c j) c ≡ false
      unfolding is_solved
      unsolved c l = ap (λ (b : Bool). chk c && b) (le-ltb j c l) ∙ and-false (chk c)

      parts_early : (c : ℕ) → c < j → parts c ≡ false
      unfolding parts
      parts_early c l = solved_base j (λ c. eqb c j) n c (unsolved c (omega arith)) ∙ ne_eqb c j (λ e. omega arith)

      -- A column that is 0 in all unused rows is a message column.
      pub clear_message : ((i : ℕ) → i < k → used i ≡ false → r i j ≡ false) → chk j ≡ false
      unfolding parts
      clear_message zeros = by (chk j) (λ t. absurd (law.free j h t parts dep)) (λ z. z)
        where
          used_row : (i : ℕ) → ((c : ℕ) × (Pivot n chk (suc j) c) × (row c ≡ i)) → dot n (r i) parts ≡ false
          used_row i o =
              pivot_met (suc j) inv parts i o.0 o.1 o.2 (solved_sum j (λ c. eqb c j) n o.0 o.1.1 (is_solved_lem o.0 o.1))

          free_row : (i : ℕ) → i < k → used i ≡ false → dot n (r i) parts ≡ false
          free_row i l u =
              parity_none n (λ c. r i c && parts c) (λ c g.
              elim (dec_lt c j) [
                | yes b ↦ ap (λ (x : Bool). r i c && x) (parts_early c b) ∙ and-false (r i c)
                | no b ↦
                    elim (ℕ_discrete c j) [
                      | yes e ↦ ap (λ (x : Bool). x && parts c) (ap (r i) e ∙ zeros i l u)
                      | no e ↦ ap (λ (x : Bool). x && parts c) (inv.none i l u c (omega arith) g)
                    ]
              ])

          dep : Dependency k n a chk j parts
          dep = record {
            one = solved_base j (λ c. eqb c j) n j (unsolved j (omega arith)) ∙ eq-eqb j j refl;
            before = parts_early;
            after = λ c g g' o. by (is_solved j (λ c. eqb c j) c) (λ t. (solved_pivot c g' t).2)
                (λ z. clash o (solved_base j (λ c. eqb c j) n c z ∙ ne_eqb c j (λ e. omega arith)));
            met = inv.from parts (λ i l. by (used i) (λ u. used_row i (inv.owner i l u)) (free_row i l));
          }

      -- A column with a 1 in an unused row is a check column.
      pub pivot_check : (t : ℕ) → t < k → used t ≡ false → r t j ≡ true → chk j ≡ true
      pivot_check t l u o = by (chk j) (λ y. y) (λ z. clash (full z) (inv.to (law.bound j h z).0 (law.bound j h z).1.met t l))
        where
          full : (z : chk j ≡ false) → dot n (r t) (law.bound j h z).0 ≡ true
          full z =
              let d : ℕ → Bool = (law.bound j h z).0 in
              let dep : Dependency k n a chk j d = (law.bound j h z).1 in
              parity_only n j (λ c. r t c && d c) h
              (λ c g ne. and_no (r t c) (d c) (λ y.
              elim (dec_lt c j) [
                | yes b ↦ clash y (dep.before c b)
                | no b ↦ inv.none t l u c (omega arith) g
              ]))
              ∙ ap₂ ◌&&◌ o dep.one

    -- ---- the two steps

    -- A message column asks for no change.
    pub clear_step : (j : ℕ) → Inv k n a chk r used row (suc j) → chk j ≡ false → ((i : ℕ) → i < k → used i ≡ false → r i j ≡ false)
        → Inv k n a chk r used row j
    clear_step j inv z zeros = record {
      to = inv.to;
      from = inv.from;
      row_lt = λ c p. inv.row_lt c (later c p);
      row_used = λ c p. inv.row_used c (later c p);
      row_one = λ c d p q. inv.row_one c d (later c p) (later d q);
      lead = λ c p. inv.lead c (later c p);
      high = λ c p. inv.high c (later c p);
      owner = λ i h u. let o = inv.owner i h u in (o.0, (omega (arith, o.1.0), o.1.1, o.1.2), o.2);
      none = λ i h u c l g. elim (ℕ_discrete c j) [
        | yes e ↦ ap (r i) e ∙ zeros i h u
        | no e ↦ inv.none i h u c (omega arith) g
      ];
    }
      where
        later : (c : ℕ) → Pivot n chk j c → Pivot n chk (suc j) c
        later c p =
            elim (ℕ_discrete c j) [
              | yes e ↦ clash p.2 (subst⁻¹ (λ (x : ℕ). chk x ≡ false) e z)
              | no e ↦ (omega arith, p.1, p.2)
            ]

    -- A check column with a 1 in the unused row t: row t is added to every other unused row with a 1 in the column, and is the column's
    -- own. `added` tells the rows that it is added to.
    pub pivot_step : (j : ℕ) → j < n → Inv k n a chk r used row (suc j) → chk j ≡ true → (t : ℕ) → t < k → used t ≡ false → r t j ≡ true
        → (added : ℕ → Bool) → added t ≡ false → ((i : ℕ) → i < k → used i ≡ true → added i ≡ false)
        → ((i : ℕ) → i < k → used i ≡ false → (i ≡ t → ⊥) → added i ≡ r i j)
        → (r' : BitMatrix) (used' : ℕ → Bool) (row' : ℕ → ℕ)
        → ((i : ℕ) → i < k → (c : ℕ) → c < n → r' i c ≡ xor (r i c) (added i && r t c))
        → ((i : ℕ) → i < k → used' i ≡ (eqb i t || used i)) → ((c : ℕ) → j < c → c < n → row' c ≡ row c) → row' j ≡ t
        → Inv k n a chk r' used' row' j
    pivot_step j h inv y t l u o added own_not used_not free_is r' used' row' er eu ew et = record {
      to = λ w m i g.
          sums w i g ∙ ap₂ xor (inv.to w m i g) (ap (λ (b : Bool). added i && b) (inv.to w m t l) ∙ and-false (added i)) ∙ xor_none false;
      from = λ w m. inv.from w (back w m);
      row_lt = λ c p. split c p
          (λ e. subst⁻¹ (λ (x : ℕ). x < k) (first c e) l)
          (λ q. subst⁻¹ (λ (x : ℕ). x < k) (rest c q) (inv.row_lt c q));
      row_used = λ c p. split c p
          (λ e. ap used' (first c e) ∙ eu t l ∙ ap (λ (b : Bool). b || used t) (eq-eqb t t refl))
          (λ q.
          ap used' (rest c q)
          ∙ eu (row c) (inv.row_lt c q)
          ∙ ap (λ (b : Bool). eqb (row c) t || b) (inv.row_used c q)
          ∙ or-true (eqb (row c) t));
      row_one = λ c d p q e. split c p
          (λ f. split d q (λ g. f ∙ sym g) (λ g. absurd (fresh d g (sym (rest d g) ∙ sym e ∙ first c f))))
          (λ f. split d q
          (λ g. absurd (fresh c f (sym (rest c f) ∙ e ∙ first d g)))
          (λ g. inv.row_one c d f g (sym (rest c f) ∙ e ∙ rest d g)));
      lead = λ c p. split c p
          (λ e. ap₂ r' (first c e) e ∙ unchanged t l own_not j h ∙ o)
          (λ q. ap (λ (x : ℕ). r' x c) (rest c q) ∙ pivot_kept c q c p.1 ∙ inv.lead c q);
      high = λ c p d g q. split c p
          (λ e. ap (λ (x : ℕ). r' x d) (first c e) ∙ unchanged t l own_not d q ∙ inv.none t l u d (omega arith) q)
          (λ f. ap (λ (x : ℕ). r' x d) (rest c f) ∙ pivot_kept c f d q ∙ inv.high c f d g q);
      owner = λ i g v. elim (ℕ_discrete i t) [
        | yes e ↦ (j, (omega arith, h, y), et ∙ sym e)
        | no e ↦
            let w = inv.owner i g (sym (ap (λ (b : Bool). b || used i) (ne_eqb i t e)) ∙ sym (eu i g) ∙ v) in
            (w.0, (omega (arith, w.1.0), w.1.1, w.1.2), rest w.0 w.1 ∙ w.2)
      ];
      none = λ i g v c m q.
          let old : used i ≡ false = or_right (eqb i t) (used i) (sym (eu i g) ∙ v) in
          let other : i ≡ t → ⊥ = λ e. clash (ap (λ (b : Bool). b || used i) (eq-eqb i t e)) (sym (eu i g) ∙ v) in
          elim (ℕ_discrete c j) [
            | yes e ↦ ap (r' i) e ∙ er i g j h ∙ ap₂ (λ (b z : Bool). xor (r i j) (b && z)) (free_is i g old other) o
                ∙ ap (xor (r i j)) (and-true (r i j)) ∙ xor_same (r i j)
            | no e ↦
                er i g c q
                ∙ ap₂ (λ (b z : Bool). xor b (added i && z)) (inv.none i g old c (omega arith) q) (inv.none t l u c (omega arith) q)
                ∙ ap (xor false) (and-false (added i)) ∙ xor_none false
          ];
    }
      where
        sums : (w : ℕ → Bool) (i : ℕ) → i < k → dot n (r' i) w ≡ xor (dot n (r i) w) (added i && dot n (r t) w)
        sums w i g =
            dot_ext n (r' i) (λ c. xor (r i c) (added i && r t c)) w w (er i g) (λ c q. refl)
            ∙ xor_dot n (r i) (λ c. added i && r t c) w ∙ ap (xor (dot n (r i) w)) (scale_dot n (added i) (r t) w)

        own : (w : ℕ → Bool) → Meets k n r' w → dot n (r t) w ≡ false
        own w m =
            sym (sums w t l ∙ ap (λ (b : Bool). xor (dot n (r t) w) (b && dot n (r t) w)) own_not ∙ xor_none (dot n (r t) w)) ∙ m t l

        back : (w : ℕ → Bool) → Meets k n r' w → Meets k n r w
        back w m i g =
            sym (sums w i g ∙ ap (λ (b : Bool). xor (dot n (r i) w) (added i && b)) (own w m)
            ∙ ap (xor (dot n (r i) w)) (and-false (added i)) ∙ xor_none (dot n (r i) w)) ∙ m i g

        first : (c : ℕ) → c ≡ j → row' c ≡ t
        first c e = ap row' e ∙ et

        rest : (c : ℕ) → Pivot n chk (suc j) c → row' c ≡ row c
        rest c q = ew c q.0 q.1

        fresh : (c : ℕ) → Pivot n chk (suc j) c → row c ≡ t → ⊥
        fresh c q e = clash (inv.row_used c q) (subst⁻¹ (λ (x : ℕ). used x ≡ false) e u)

        split : {X : Type 0} (c : ℕ) → Pivot n chk j c → (c ≡ j → X) → (Pivot n chk (suc j) c → X) → X
        split c p f g = elim (ℕ_discrete c j) [ yes e ↦ f e | no e ↦ g (omega arith, p.1, p.2) ]

        unchanged : (i : ℕ) → i < k → added i ≡ false → (c : ℕ) → c < n → r' i c ≡ r i c
        unchanged i g z c q = er i g c q ∙ ap (λ (b : Bool). xor (r i c) (b && r t c)) z ∙ xor_none (r i c)

        pivot_kept : (c : ℕ) → Pivot n chk (suc j) c → (d : ℕ) → d < n → r' (row c) d ≡ r (row c) d
        pivot_kept c q = unchanged (row c) (inv.row_lt c q) (used_not (row c) (inv.row_lt c q) (inv.row_used c q))

    -- ---- the check bits

    -- At the end, a word whose every check bit is the sum of the earlier bits in the ones of its row is in the kernel.
    pub solved : Inv k n a chk r used row 0 → (w : ℕ → Bool)
        → ((c : ℕ) → c < n → chk c ≡ true → w c ≡ dot c (r (row c)) w) → Meets k n a w
    solved inv w fills =
        inv.from w (λ i h.
        by (used i)
        (λ u. let o = inv.owner i h u in pivot_met 0 inv w i o.0 o.1 o.2 (fills o.0 o.1.1 o.1.2))
        (free_row i h))
      where
        free_row : (i : ℕ) → i < k → used i ≡ false → dot n (r i) w ≡ false
        free_row i h u = parity_none n (λ c. r i c && w c) (λ c g. ap (λ (b : Bool). b && w c) (inv.none i h u c (omega arith) g))
