-- The shares add up, and a range's share is its length.
use Rattle.ranges.proofs.Shares.{shares-total, share-range}
use Rattle.ranges.proofs.law_shares.Goals as goal

pub returns : goal.returns
returns c = record { total = λ rows n long. shares-total rows long n; range = λ rows n i f o l. share-range rows n f i o l }
