use Rattle.dwz_run_course.proofs.Completeness.{complete, ends_of, refuses_all}
use Rattle.dwz_run_course.proofs.Endings.{kept_after}
use Rattle.dwz_run_course.proofs.running.run_course.Goals as goal

pub returns : goal.returns
returns g c =
    let e = ends_of _ _ _ _ _ _ _ _ _ _ c.run_words-end.ensures.ends c.say.ensures.status c.say.ensures.says in
    record {
      ends = e;
      complete = complete _ _ _ _ _ _ _ g.met.W.Work.one _ e;
      refuses = refuses_all _ _ _ _ _ _ _ g.met.W.Work.one _ e;
      demo = c.run_words-end.ensures.demo;
      reads =
          kept_after _ _ _ _ c.say.ensures.status c.run_words-end.ensures.reads;
    }
