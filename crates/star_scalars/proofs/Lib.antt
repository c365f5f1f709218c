mod Cuts
mod Finding
mod LineCuts
mod MirrorImages
mod ScalarCuts
mod WordCuts
