-- The places are those of ALT.
use Rattle.vcf_line.proofs.Answers.{site-alternates, counts-places}
use Rattle.vcf_line.proofs.alternates.vcf_count.Goals as goal

pub extent_of-requires : goal.extent_of-requires
extent_of-requires c =
    let l = site-alternates _ _ _ c.in_ok-site.ensures in
    (l.ordered, l.inside)

pub returns : goal.returns
returns c =
    counts-places _ _ _ c.in_ok-site.ensures _ _
    c.extent_of.ensures c.count_marks-marks.ensures.0
