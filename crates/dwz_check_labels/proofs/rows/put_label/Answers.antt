use Rattle.dwz_check_labels.proofs.FileLemmas.{label_added, label_keys}
use Rattle.dwz_check_labels.proofs.rows.put_label.Goals as goal

pub returns-clause-keys : goal.returns-clause-keys
returns-clause-keys c = label_keys c.args.labels.now c.push.new.self c.args.label.now c.args.edges.now.items c.put_edges.new.edges.items c.args.tops.now c.len.result c.len.ensures
    c.in_ok-put_edges.ensures c.in_ok-push.ensures.ok c.requires.keys

pub returns-clause-adds : goal.returns-clause-adds
returns-clause-adds c = label_added c.args.labels.now c.push.new.self c.args.label.now c.args.edges.now.items c.put_edges.new.edges.items c.args.tops.now c.len.result c.len.ensures
    c.in_ok-put_edges.ensures c.in_ok-push.ensures.ok
