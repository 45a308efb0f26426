mod KeyLaws
mod PlaceLaws
mod FoundLaws
mod SelectedLaws
mod ClashLaws
