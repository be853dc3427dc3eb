-- What the tests tell of the image.
use Rattle.image.proofs.WellFormed.{well_formed-formed}
use Rattle.register.proofs.Accepted.{answered-withdrawable}
use Rattle.register.proofs.withdrawal.withdraw.Goals as goal

pub change-requires : goal.change-requires
change-requires c =
    let w = answered-withdrawable _ _ _ c.in_ok-check_withdrawal.ensures in
    record {
      header = (well_formed-formed _ w.issued.formed).header;
      le_number = (w.issued.from, w.issued.to);
      image_bound = w.room;
    }
