-- The way of a value by the class of its form: row by row of the table of classes.
use Rattle.std.proofs.Common.{◌≡◌, ℕ, ◌⊎◌, Bool, true, false, List, [], ◌∷◌, refl, sym, ap, ◌∙◌, cond, eqb, eqb-true, ne_eqb}
use Rattle.std.proofs.Math.Logic.{inl, inr}
use Rattle.dwz_def_reading.specs.Pair.{Pair}
use Rattle.dwz_def_reading.specs.Classes.{OfConstant, OfExpression, OfInfoEntry, OfTextBySlot, OfTextInLineStr, OfTextInStr, OfUnitEntry, Unread}
use Rattle.dwz_def_reading.specs.Classes.{Class, ClassRow, class_in, class_of, class_rows}
use Rattle.dwz_def_reading.specs.Classes.{names_file}
use Rattle.dwz_def_encoding.specs.Placing.{CommonUnit, NewUnit, OldUnit, UnitRole}
use Rattle.dwz_layout.specs.declared.ways.Rewrite.{Rewrite}
use Rattle.dwz_layout.specs.declared.ways.Rewrite.TheVariants.{AsEntry, AsExpression, AsFile, AsRead, AsText, Dropped, KeepsText}
use Rattle.dwz_layout.specs.Ways.{if_file, rewrite_of, way_in, way_rows}

-- what is written of a number of a file, of a text of `.debug_line_str`, and of a text by its slot
abbrev pub number_way : UnitRole → Rewrite
number_way OldUnit = AsRead
number_way NewUnit = AsRead
number_way CommonUnit = AsFile

abbrev pub line_way : UnitRole → Rewrite
line_way OldUnit = KeepsText
line_way NewUnit = KeepsText
line_way CommonUnit = AsText

abbrev pub slot_way : UnitRole → Rewrite
slot_way OldUnit = KeepsText
slot_way NewUnit = AsText
slot_way CommonUnit = AsText

-- what is written of a value of a class, in an attribute that names a file
abbrev pub class_way : UnitRole → Class → Rewrite
class_way h OfConstant = number_way h
class_way h OfTextInStr = AsText
class_way h OfTextInLineStr = line_way h
class_way h OfTextBySlot = slot_way h
class_way h OfUnitEntry = AsEntry
class_way h OfInfoEntry = AsEntry
class_way h OfExpression = AsExpression
class_way h c = AsRead

abbrev AllWays : UnitRole → List ClassRow → Type 0
AllWays h [] = Unit {0}
AllWays h (r ∷ rows) = (way_in h r.form way_rows ≡ class_way h r.class) × AllWays h rows

rows_ways : (h : UnitRole) → AllWays h class_rows
unfolding class_rows way_in
rows_ways OldUnit = (
  refl,
  (
    refl,
    (
      refl,
      (
        refl,
        (
          refl,
          (
            refl,
            (
              refl,
              (
                refl,
                (
                  refl,
                  (
                    refl,
                    (
                      refl,
                      (
                        refl,
                        (
                          refl,
                          (
                            refl,
                            (
                              refl,
                              (
                                refl,
                                (
                                  refl,
                                  (
                                    refl,
                                    (
                                      refl,
                                      (
                                        refl,
                                        (
                                          refl,
                                          (
                                            refl,
                                            (
                                              refl,
                                              (
                                                refl,
                                                (
                                                  refl,
                                                  (refl, (refl, (refl, (refl, (refl, (refl, (refl, (refl, (refl, (refl, (refl, (refl, (refl, (refl, (refl, (refl, tt)))))))))))))))),
                                                ),
                                              ),
                                            ),
                                          ),
                                        ),
                                      ),
                                    ),
                                  ),
                                ),
                              ),
                            ),
                          ),
                        ),
                      ),
                    ),
                  ),
                ),
              ),
            ),
          ),
        ),
      ),
    ),
  ),
)
rows_ways NewUnit = (
  refl,
  (
    refl,
    (
      refl,
      (
        refl,
        (
          refl,
          (
            refl,
            (
              refl,
              (
                refl,
                (
                  refl,
                  (
                    refl,
                    (
                      refl,
                      (
                        refl,
                        (
                          refl,
                          (
                            refl,
                            (
                              refl,
                              (
                                refl,
                                (
                                  refl,
                                  (
                                    refl,
                                    (
                                      refl,
                                      (
                                        refl,
                                        (
                                          refl,
                                          (
                                            refl,
                                            (
                                              refl,
                                              (
                                                refl,
                                                (
                                                  refl,
                                                  (refl, (refl, (refl, (refl, (refl, (refl, (refl, (refl, (refl, (refl, (refl, (refl, (refl, (refl, (refl, (refl, tt)))))))))))))))),
                                                ),
                                              ),
                                            ),
                                          ),
                                        ),
                                      ),
                                    ),
                                  ),
                                ),
                              ),
                            ),
                          ),
                        ),
                      ),
                    ),
                  ),
                ),
              ),
            ),
          ),
        ),
      ),
    ),
  ),
)
rows_ways CommonUnit = (
  refl,
  (
    refl,
    (
      refl,
      (
        refl,
        (
          refl,
          (
            refl,
            (
              refl,
              (
                refl,
                (
                  refl,
                  (
                    refl,
                    (
                      refl,
                      (
                        refl,
                        (
                          refl,
                          (
                            refl,
                            (
                              refl,
                              (
                                refl,
                                (
                                  refl,
                                  (
                                    refl,
                                    (
                                      refl,
                                      (
                                        refl,
                                        (
                                          refl,
                                          (
                                            refl,
                                            (
                                              refl,
                                              (
                                                refl,
                                                (
                                                  refl,
                                                  (refl, (refl, (refl, (refl, (refl, (refl, (refl, (refl, (refl, (refl, (refl, (refl, (refl, (refl, (refl, (refl, tt)))))))))))))))),
                                                ),
                                              ),
                                            ),
                                          ),
                                        ),
                                      ),
                                    ),
                                  ),
                                ),
                              ),
                            ),
                          ),
                        ),
                      ),
                    ),
                  ),
                ),
              ),
            ),
          ),
        ),
      ),
    ),
  ),
)

found_way : (h : UnitRole) (rows : List ClassRow) (form : ℕ) → AllWays h rows → (class_in rows form ≡ Unread) ⊎ (way_in h form way_rows ≡ class_way h (class_in rows form))
unfolding class_in
found_way h [] form ways = inl refl
found_way h (r ∷ rows) form ways = go (found_way h rows form ways.1) (eqb r.form form) refl where
  go : (class_in rows form ≡ Unread) ⊎ (way_in h form way_rows ≡ class_way h (class_in rows form)) → (b : Bool) → eqb r.form form ≡ b
      → (cond b r.class (class_in rows form) ≡ Unread) ⊎ (way_in h form way_rows ≡ class_way h (cond b r.class (class_in rows form)))
  go rest true e = inr (ap (λ (f : ℕ). way_in h f way_rows) (sym (eqb-true r.form form e)) ∙ ways.0)
  go rest false e = rest

-- a class of values that are read
abbrev pub is_read : Class → Bool
is_read Unread = false
is_read _ = true

-- of a value that isn't DW_AT_sibling
pub way_is : (h : UnitRole) (p : Pair) (c : Class) → (p.name ≡ 0x01 → ⊥) → class_of p.form ≡ c → is_read c ≡ true → rewrite_of h p ≡ if_file (names_file p.name) (class_way h c)
way_is h p c other e some =
    elim (found_way h class_rows p.form (rows_ways h)) [
      | inl u ↦ absurd (let isnt : is_read (class_of p.form) ≡ false = ap is_read u in let yes : is_read (class_of p.form) ≡ true = ap is_read e ∙ some in cc)
      | inr w ↦ ap (λ (b : Bool). cond b Dropped (if_file (names_file p.name) (way_in h p.form way_rows))) (ne_eqb p.name 0x01 other)
          ∙ ap (if_file (names_file p.name)) (w ∙ ap (class_way h) e)
    ]

abbrev pub is_file : Rewrite → Bool
is_file AsFile = true
is_file _ = false

-- only the ways of numbers depend on the name
pub other_way : (b : Bool) (w : Rewrite) → is_file w ≡ false → if_file b w ≡ w
other_way true w isnt = refl
other_way false AsFile isnt = absurd cc
other_way false Dropped isnt = refl
other_way false AsRead isnt = refl
other_way false KeepsText isnt = refl
other_way false AsText isnt = refl
other_way false AsEntry isnt = refl
other_way false AsExpression isnt = refl

pub way_of_class : (h : UnitRole) (p : Pair) (c : Class) → (p.name ≡ 0x01 → ⊥) → class_of p.form ≡ c → is_read c ≡ true → is_file (class_way h c) ≡ false → rewrite_of h p ≡ class_way h c
way_of_class h p c other e some isnt = way_is h p c other e some ∙ other_way (names_file p.name) (class_way h c) isnt
