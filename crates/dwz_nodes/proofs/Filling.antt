-- Noting one node at one more of its targets keeps every list what it is to be.
use Rattle.std.proofs.Common.{◌≡◌, ◌≢◌, ℕ, ◌+◌, ◌<◌, ◌≤◌, ◌⊎◌, List, [], ◌∷◌, ◌++◌, length, set, take, drop, inl, inr, ⊎_elim, sym, ap, subst, ◌∙◌, arith, length-set, get_or-set_other}
use Rattle.std.proofs.Common.{get_or-set_same}
use Rattle.std.specs.Prelude.{slice_index, slice_range}
use Rattle.std.proofs.lemmas.Bool.{cases_eq}
use Rattle.std.proofs.lemmas.List.{take_all}
use Rattle.dwz_nodes.specs.declared.back.Span.{Span}
use Rattle.dwz_nodes.specs.Graph.{Node, targets_at}
use Rattle.dwz_nodes.specs.Back.{AreListed}
use Rattle.dwz_nodes.specs.Rooms.{AreRooms, EndsIn, IsFilled, IsNoted, all_targets, list_at, span, span_at}
use Rattle.dwz_nodes.proofs.Apart.{apart, range-here, range-other, rooms-place, rooms-set, rooms-skip}
use Rattle.dwz_nodes.proofs.Flat.{all_targets-suc, seen_at, seen-more, seen-none, seen-rest}
use Rattle.dwz_nodes.proofs.Sources.{IsSourceSoFar, at_other, at_target, so_far_all, so_far_none}

-- the nodes below n are noted, and n at its first j targets
pub record IsFilledSoFar (g : List Node) (n j : ℕ) (spans : List Span) (row : List ℕ) : Type 0 where
  pub len : length spans ≡ length g
  pub room : length row ≡ length (all_targets g)
  pub rooms : AreRooms (all_targets g) (seen_at g n j) spans
  pub listed : (a : ℕ) → a < length g → AreListed (IsSourceSoFar g n j a) (list_at spans row a)

module _ (g : List Node) (n : ℕ) (l : n < length g) where
  abbrev ts : List ℕ
  ts = targets_at g n

  pub filled-begin : (spans : List Span) (row : List ℕ) → IsFilled g n spans row → IsFilledSoFar g n 0 spans row
  filled-begin spans row f = record {
    len = f.len;
    room = f.room;
    rooms = subst (λ (xs : List ℕ). AreRooms (all_targets g) xs spans) (seen-none g n) f.rooms;
    listed = λ a in'. so_far_none g n a (list_at spans row a) (f.listed a in');
  }

  pub filled-end : (j : ℕ) (spans : List Span) (row : List ℕ) → length ts ≤ j → IsFilledSoFar g n j spans row → IsFilled g (n + 1) spans row
  filled-end j spans row long f = record {
    len = f.len;
    room = f.room;
    rooms = subst (λ (xs : List ℕ). AreRooms (all_targets g) xs spans) (ap (λ (xs : List ℕ). all_targets (take n g) ++ xs) (take_all j ts long) ∙ sym (all_targets-suc g n l)) f.rooms;
    listed = λ a in'. so_far_all g n j a (list_at spans row a) long (f.listed a in');
  }

  module _ (j : ℕ) (inside : j < length ts) (spans : List Span) (row : List ℕ) (f : IsFilledSoFar g n j spans row) where
    abbrev t : ℕ
    t = slice_index ts j

    abbrev rest : List ℕ
    rest = drop (j + 1) ts ++ all_targets (drop (n + 1) g)

    all : all_targets g ≡ (seen_at g n j ++ t ∷ []) ++ rest
    all = seen-rest g n (j + 1) l ∙ ap (λ (xs : List ℕ). xs ++ rest) (seen-more g n j inside)

    -- a target that is no node
    pub filled-skip : length g ≤ t → IsFilledSoFar g n (j + 1) spans row
    filled-skip out = record {
      len = f.len;
      room = f.room;
      rooms = subst (λ (xs : List ℕ). AreRooms (all_targets g) xs spans) (sym (seen-more g n j inside)) (rooms-skip (all_targets g) (seen_at g n j) spans f.rooms t);
      listed = λ a in'. (let ne : a ≢ t = omega arith in at_other g n j inside a (list_at spans row a) ne (f.listed a in'));
    }

    module _ (node' : t < length g) where
      there : t < length spans
      there = omega (arith, f.len)

      pub filled-rising : (span_at spans t).start ≤ (span_at spans t).end
      filled-rising = f.rooms.rising t there

      pub filled-place : (span_at spans t).end < length row
      filled-place = omega (arith, f.room, rooms-place (all_targets g) (seen_at g n j) spans f.rooms t rest all there)

      module _ (s : Span) (row' : List ℕ) (h : IsNoted n (span_at spans t) row s row') where
        len_row : length row' ≡ length row
        len_row = ⊎_elim (λ e. ap (λ (xs : List ℕ). length xs) e.1) (λ e. ap (λ (xs : List ℕ). length xs) e.1 ∙ length-set row (span_at spans t).end n) h

        start : s.start ≡ (span_at spans t).start
        start = ⊎_elim (λ e. ap (λ (q : Span). q.start) e.0) (λ e. ap (λ (q : Span). q.start) e.0) h

        grows : (span_at spans t).end ≤ s.end
        grows = ⊎_elim (λ e. (let is = ap (λ (q : Span). q.end) e.0 in omega arith)) (λ e. (let is = ap (λ (q : Span). q.end) e.0 in omega arith)) h

        by_one : s.end ≤ (span_at spans t).end + 1
        by_one = ⊎_elim (λ e. (let is = ap (λ (q : Span). q.end) e.0 in omega arith)) (λ e. (let is = ap (λ (q : Span). q.end) e.0 in omega arith)) h

        new_list : list_at (set spans t s) row' t ≡ slice_range row' s.start s.end
        new_list = ap (λ (q : Span). slice_range row' q.start q.end) (get_or-set_same spans t s (span 0 0) there)

        -- the target's list has the node at its end
        here : ((list_at (set spans t s) row' t ≡ list_at spans row t) × EndsIn (list_at spans row t) n)
            ⊎ ((list_at (set spans t s) row' t ≡ list_at spans row t ++ n ∷ []) × (¬ (EndsIn (list_at spans row t) n)))
        here = ⊎_elim
            (λ e. inl (new_list ∙ (λ i. slice_range (e.1 i) ((e.0 i).start) ((e.0 i).end)), e.2))
            (λ e. inr (new_list ∙ ((λ i. slice_range (e.1 i) ((e.0 i).start) ((e.0 i).end)) ∙ range-here row (span_at spans t).start (span_at spans t).end n filled-rising filled-place), e.2))
            h

        -- all other lists stay
        other : (a : ℕ) → a < length g → (a ≡ t → ⊥) → list_at (set spans t s) row' a ≡ list_at spans row a
        other a in' ne =
            ap (λ (q : Span). slice_range row' q.start q.end) (get_or-set_other spans t a s (span 0 0) ne)
            ∙ ⊎_elim
            (λ e. ap (λ (xs : List ℕ). list_at spans xs a) e.1)
            (λ e. ap (λ (xs : List ℕ). list_at spans xs a) e.1
            ∙ range-other row (span_at spans a).start (span_at spans a).end (span_at spans t).end n (apart (all_targets g) (seen_at g n j) spans f.rooms t rest all there a (omega (arith, f.len)) ne))
            h

        by : (a : ℕ) → a < length g → (a ≡ t) ⊎ (a ≡ t → ⊥) → AreListed (IsSourceSoFar g n (j + 1) a) (list_at (set spans t s) row' a)
        by a in' (inl e) = subst (λ b. AreListed (IsSourceSoFar g n (j + 1) b) (list_at (set spans t s) row' b)) (sym e)
            (at_target g n j inside (list_at spans row t) (list_at (set spans t s) row' t) (f.listed t node') here)
        by a in' (inr ne) = subst (λ (xs : List ℕ). AreListed (IsSourceSoFar g n (j + 1) a) xs) (sym (other a in' ne)) (at_other g n j inside a (list_at spans row a) ne (f.listed a in'))

        pub filled-more : IsFilledSoFar g n (j + 1) (set spans t s) row'
        filled-more = record {
          len = length-set spans t s ∙ f.len;
          room = len_row ∙ f.room;
          rooms = subst (λ (xs : List ℕ). AreRooms (all_targets g) xs (set spans t s)) (sym (seen-more g n j inside))
              (rooms-set (all_targets g) (seen_at g n j) spans f.rooms t s there start grows by_one);
          listed = λ a in'. by a in' (cases_eq a t);
        }
