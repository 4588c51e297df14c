-- The printed text is that of a report which claims what it should.
use Rattle.std.proofs.Common.{◌≡◌, ◌≢◌, ◌↔◌, ℕ, Bool, IsTrue, List, [], length, refl, ap, arith}
use Rattle.std.proofs.lemmas.List.{length-append}
use Rattle.first_program.specs.Source.{Program}
use Rattle.first_program.specs.SourceViews.{IsShaped}
use Rattle.first_program.specs.Meaning.{meaning_of}
use Rattle.first_analysis.specs.declared.place.Place.{Place}
use Rattle.first_analysis.specs.Tables.{IsAnalysis}
use Rattle.eva_report.specs.Report.{report_text}
use Rattle.eva_claim.specs.Claims.{IsReportOf}
use Rattle.first_report.specs.Rows.{report_of}
use Rattle.first_report.proofs.Soundness.{sound}
use Rattle.first_report.proofs.Numbered.{complete}
use Rattle.first_report.proofs.Validity.{is_valid, is_flowing, is_self_contained, has_room}
use Rattle.first_report.proofs.Ruling.{ruled, objects_named}

-- there is a place for each statement and for the closing brace
pub places_counted : (p : Program) (places : List Place) → IsShaped p → IsAnalysis p places → length places ≡ length p.spans
places_counted p places shaped an =
    let t = an.table in let a = t.many in let b = shaped.places in let l = ap length t.whole in omega (arith, simp length-append at l)

pub claimed : (p : Program) (places : List Place) (text : List ℕ) (alarmed : Bool) → IsShaped p → IsAnalysis p places → text ≡ report_text (report_of p places) →
    (IsTrue alarmed ↔ ((report_of p places).alarms ≢ [])) → IsReportOf (meaning_of p) alarmed text
claimed p places text alarmed shaped an is flag =
    let many = places_counted p places shaped an in
    record {
      valid = is_valid p;
      flowing = is_flowing p;
      whole = is_self_contained p;
      room = has_room p shaped;
      report = report_of p places;
      claimed = record {
        sound = sound p places shaped an (omega arith);
        complete = complete p places many shaped.places;
        objects = objects_named p 1 places p.spans;
        hyps = refl;
        rules = ruled p places;
      };
      is_text = is;
      flag = flag;
    }
