use Rattle.std.proofs.Common.{◌≡◌, ℕ, ◌+◌, List, ◌++◌, length, map, ap, ◌∙◌, arith}
use Rattle.std.proofs.lemmas.List.{length-append, length-map}
use Rattle.dwz_label.specs.Shown.{nth_label}
use Rattle.dwz_match.proofs.BareFacts.{joined_common, joined_own, zeroed}
use Rattle.dwz_match.proofs.bare.joined_labels.Goals as goal

pub returns-clause-len : goal.returns-clause-len
returns-clause-len c =
    let len = c.in_ok-labels.ensures.len in
    let parts = length-append c.in_ok-labels.labels (map zeroed c.args.common.now) in
    let many = length-map c.args.common.now zeroed in
    ap (λ (w : List (List ℕ)). length w) c.in_ok-put_behind.ensures
    ∙ (let e : length (c.in_ok-labels.labels ++ map zeroed c.args.common.now) ≡ length c.args.own.now + length c.args.common.now = omega (arith, parts, many, len) in e)

pub returns-clause-own : goal.returns-clause-own
returns-clause-own c n t l is =
    let len = c.in_ok-labels.ensures.len in
    ap (λ (w : List (List ℕ)). nth_label w n) c.in_ok-put_behind.ensures ∙ joined_own c.in_ok-labels.labels c.args.common.now n (omega (arith, l, len)) ∙ c.in_ok-labels.ensures.each n t l is

pub returns-clause-common : goal.returns-clause-common
returns-clause-common c k l =
    ap (λ (w : List (List ℕ)). nth_label w (length c.args.own.now + k)) c.in_ok-put_behind.ensures
    ∙ joined_common c.in_ok-labels.labels c.args.common.now (length c.args.own.now) k c.in_ok-labels.ensures.len l
